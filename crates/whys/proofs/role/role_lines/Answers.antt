use Rattle.whys.proofs.Law.{why_told_if}
use Rattle.whys.proofs.role.role_lines.Goals as goal

pub returns-clause-fault : goal.returns-clause-fault
returns-clause-fault c =
    why_told_if c.lines_of.result _ _ _ _ c.lines_of.ensures.lines c.in_ok-place.ensures c.in_ok-reason.ensures.fault
