use Rattle.std.proofs.Common.{◌∙◌, refl}
use Rattle.cycle.specs.Workflow.{request}
use Rattle.command.proofs.Sampled.{sampled}
use Rattle.command.proofs.sampling.verify.Goals as goal

pub returns-clause-sampled : goal.returns-clause-sampled
returns-clause-sampled g c =
    sampled (request c.in_ok-trusted.trusted c.in_ok-now.now c.args.wanted.now c.in_ok-limits.limits.roles) _ c.plain.result _ _ _
    c.tell_outcome.result refl (c.plain.ensures.outcome ∙ c.in_ok-outcome.ensures.workflow) c.plain.ensures.nothing c.tell_outcome.ensures.printed
