use Rattle.std.proofs.Common.{◌≡◌, map, string_bytes, take}
use Rattle.paths.specs.Names.{path_of}
use Rattle.paths.proofs.names.each_path.Given as goal

-- the paths of the names so far
abbrev pub invariant-loop-name : goal.invariant-loop-name
invariant-loop-name l = map string_bytes l.paths.items ≡ map (path_of l.consistent) (map string_bytes (take l.name-index l.names))
