use Rattle.std.proofs.Common.{ℕ, List, Bool}
use Rattle.std.specs.Vec.Iter.{into_iter_items}
use Rattle.measured.specs.Known.{AreDone, IsKnown}
use Rattle.measured.proofs.early.keep_all.Given as goal

abbrev pub invariant-loop-one : goal.invariant-loop-one
invariant-loop-one l = record {
  can : goal.iterator-loop-one.can_next l.one-iterator;
  ends : goal.iterator-loop-one.is_finite l.one-iterator;
  known : (names : List (List ℕ)) (holds : List ℕ → List ℕ → Bool) (found : List ℕ → Bool)
      → AreDone holds l.fn.done.items
      → IsKnown names holds found l.initial.known → IsKnown names holds found l.known;
  left : (holds : List ℕ → List ℕ → Bool)
      → AreDone holds l.fn.done.items
      → AreDone holds (into_iter_items l.one-iterator);
}
