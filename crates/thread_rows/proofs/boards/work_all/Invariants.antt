use Rattle.std.proofs.Common.{◌≡◌, All, length}
use Rattle.std.specs.Vec.Iter.{into_iter_items}
use Rattle.board.specs.Board.{IsFree}
use Rattle.thread_rows.proofs.boards.work_all.Given as goal

abbrev pub invariant-loop-hand : goal.invariant-loop-hand
invariant-loop-hand g l = record {
  can : (goal.iterator-loop-hand g).can_next l.hand-iterator;
  ends : (goal.iterator-loop-hand g).is_finite l.hand-iterator;
  free : IsFree l.board l.mine;
  hands : All (λ h. h.count ≡ length l.board.truths) (into_iter_items l.hand-iterator);
}
