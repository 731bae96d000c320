use Rattle.board.specs.Board.{IsFree}
use Rattle.thread_rows.proofs.boards.claim_all.Given as goal

abbrev pub invariant-loop-j : goal.invariant-loop-j
invariant-loop-j l = IsFree l.board l.seat
