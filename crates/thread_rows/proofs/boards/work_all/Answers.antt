use Rattle.std.proofs.Common.{rules, ◌+◌}
use Rattle.thread_rows.proofs.boards.work_all.Goals as goal

pub loop-hand-preserved : goal.loop-hand-preserved
loop-hand-preserved g c =
    let was = c.loop-hand.invariant in record {
      can = search rules;
      ends = search rules;
      free = search rules;
      hands = λ k d below. let h = was.hands (k + 1) d in grind rules;
    }
