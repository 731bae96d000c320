use Rattle.std.proofs.Common.{◌≡◌, ◌++◌, drop, map, string_bytes}
use Rattle.embed.specs.Jobs.{paths_of}
use Rattle.embed.proofs.job.paths_of.Given as goal

-- the paths so far, and then those that are left
abbrev pub invariant-loop-path : goal.invariant-loop-path
invariant-loop-path l =
    map string_bytes l.all.items ++ paths_of (drop l.path-index l.paths) ≡ paths_of l.paths
