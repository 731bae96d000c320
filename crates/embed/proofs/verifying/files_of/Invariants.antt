use Rattle.std.proofs.Common.{◌≡◌, ◌++◌, drop, map}
use Rattle.embed.specs.Inputs.{givens_by, held_in}
use Rattle.embed.specs.Jobs.{given_to}
use Rattle.embed.proofs.verifying.files_of.Given as goal

-- what is held of the files so far, and then of those that are left
abbrev pub invariant-loop-search : goal.invariant-loop-search
invariant-loop-search l =
    givens_by l.all.items ++ map (given_to (held_in l.held) l.consistent) (drop l.search-index l.searches) ≡ map (given_to (held_in l.held) l.consistent) l.searches
