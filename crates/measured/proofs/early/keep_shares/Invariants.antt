use Rattle.std.proofs.Common.{ℕ, List, Bool, All}
use Rattle.std.specs.Vec.Iter.{into_iter_items}
use Rattle.measured.specs.Known.{AreDone, IsKnown}
use Rattle.measured.proofs.early.keep_shares.Given as goal

abbrev pub invariant-loop-share : goal.invariant-loop-share
invariant-loop-share l = record {
  can : goal.iterator-loop-share.can_next l.share-iterator;
  ends : goal.iterator-loop-share.is_finite l.share-iterator;
  known : (names : List (List ℕ)) (holds : List ℕ → List ℕ → Bool) (found : List ℕ → Bool)
      → All (λ s. AreDone holds s.done.items) l.fn.shares.items
      → IsKnown names holds found l.initial.known → IsKnown names holds found l.known;
  left : (holds : List ℕ → List ℕ → Bool)
      → All (λ s. AreDone holds s.done.items) l.fn.shares.items
      → All (λ s. AreDone holds s.done.items) (into_iter_items l.share-iterator);
}
