use Rattle.std.proofs.Common.{◌≡◌, ℕ, List, map, string_bytes}
use Rattle.std.specs.List.{list_any}
use Rattle.std.specs.Str.{bytes_eq}
use Rattle.needs.specs.Needs.{is_in}
use Rattle.needs.proofs.names.names_of.Given as goal

-- the names so far
abbrev pub invariant-loop-name : goal.invariant-loop-name
invariant-loop-name l = record {
  can_next : goal.iterator-loop-name.can_next l.name-iterator;
  is_finite : goal.iterator-loop-name.is_finite l.name-iterator;
  named : (name : List ℕ) → is_in l.all name ≡ list_any (λ other. bytes_eq other name) (map string_bytes l.yielded);
}
