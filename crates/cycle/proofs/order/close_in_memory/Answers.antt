use Rattle.std.proofs.Common.{◌≡◌, refl}
use Rattle.std.proofs.lemmas.Result.{IfOk-weaker}
use Rattle.examine.specs.Checks.{file_in}
use Rattle.cycle.specs.Workflow.{Checks, Outcome, closed_by, target_checked}
use Rattle.cycle.proofs.order.close_in_memory.Goals as goal

pub returns : goal.returns
returns g c =
    let checked : Checks = target_checked (file_in c.args.cycle.now.round.repo.now.targets) in
    let whole = λ (o : Outcome) (h : (checks : Checks) → checks ≡ checked → o ≡ closed_by checks c.args.course). h checked refl in
    IfOk-weaker _ _ _ whole c.close.ensures.outcome
