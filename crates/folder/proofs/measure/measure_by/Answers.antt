use Rattle.folder.proofs.Taking.{lost, measured_known, more_taken}
use Rattle.folder.proofs.measure.measure_by.Goals as goal

pub loop-preserved : goal.loop-preserved
loop-preserved g c = more_taken _ _ _ _ _ _ c.loop.invariant c.in_ok-take_from.ensures.taken

pub returns-then-branch-clause-known : goal.returns-then-branch-clause-known
returns-then-branch-clause-known g c = measured_known c.args.need _ _ _ _ c.end.result (more_taken _ _ _ _ _ _ c.loop.invariant c.in_ok-take_from.ensures.taken)
    c.new-measuring.ensures.need (c.in_ok-take_from.ensures.end c.if-branch.true) c.new-measuring.ensures.nothing c.end.ensures.measure

pub returns-then-branch-clause-lost : goal.returns-then-branch-clause-lost
returns-then-branch-clause-lost g c = lost c.args.need _ _ _ _ (more_taken _ _ _ _ _ _ c.loop.invariant c.in_ok-take_from.ensures.taken)
    c.new-measuring.ensures.need c.new-measuring.ensures.nothing (c.in_ok-take_from.ensures.end c.if-branch.true)
