use Rattle.whys.proofs.Law.{stop_why, why_told}
use Rattle.whys.proofs.stop.stop_lines.Goals as goal

pub returns-clause-reason : goal.returns-clause-reason
returns-clause-reason c =
    stop_why c.lines_of.result _ _ _ _ _ (λ from e.
    why_told c.lines_of.result _ _ _ _ c.lines_of.ensures.lines c.in_ok-place.ensures.place (c.in_ok-reason.ensures.reason from e))
