use Rattle.std.proofs.Common.{◌≡◌, ◌++◌, drop, length, map, string_bytes}
use Rattle.needs.specs.Needs.{is_in, name_needs}
use Rattle.needs.proofs.searches.name_needs.Given as goal

-- the names so far, and then those that are left
abbrev pub invariant-loop-name : goal.invariant-loop-name
invariant-loop-name g l = record {
  left : l.left ≡ length (drop l.name-index l.names);
  so_far : l.needs.items ++ name_needs (is_in l.targets) l.most (map string_bytes (drop l.name-index l.names)) ≡ name_needs (is_in l.targets) l.most (map string_bytes l.names);
}
