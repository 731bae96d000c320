use Rattle.std.proofs.Common.{◌∙◌}
use Rattle.folder.proofs.together.next_of.Goals as goal

pub jobs-preserved-in_default-opened : goal.jobs-preserved-in_default-opened
jobs-preserved-in_default-opened g c =
    let was = c.jobs.invariant in
    record { row = was.row; others = was.others; room = was.room; done = λ all. c.opened.ensures.done (was.done all) }

pub returns-then-is_ok-clause-done : goal.returns-then-is_ok-clause-done
returns-then-is_ok-clause-done g c = λ all. c.opened.ensures.done (c.jobs.invariant.done all)

pub jobs-preserved : goal.jobs-preserved
jobs-preserved g c =
    let was = c.jobs.invariant in
    record {
      row = c.begin.ensures.row;
      others = λ i other. c.begin.ensures.others i other ∙ was.others i other;
      room = c.refill.ensures.room;
      done = λ all. c.opened.ensures.done (was.done all);
    }
