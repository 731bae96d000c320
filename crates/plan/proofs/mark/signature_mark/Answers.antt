use Rattle.std.proofs.Common.{rules}
use Rattle.plan.proofs.mark.signature_mark.Goals as goal

pub returns : goal.returns
returns = search rules
