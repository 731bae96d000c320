use Rattle.std.proofs.Common.{ℕ, List, Bool, map, string_bytes}
use Rattle.measured.specs.Known.{IsKnown}
use Rattle.measured.proofs.known.named.Given as goal

abbrev pub invariant-loop-name : goal.invariant-loop-name
invariant-loop-name l = record {
  can_next : goal.iterator-loop-name.can_next l.name-iterator;
  is_finite : goal.iterator-loop-name.is_finite l.name-iterator;
  known : (holds : List ℕ → List ℕ → Bool) (found : List ℕ → Bool) → IsKnown (map string_bytes l.yielded) holds found l.known;
}
