use Rattle.std.proofs.Common.{arith}
use Rattle.std.proofs.lemmas.Grind.{common_steps}
use Rattle.reasons.proofs.order.lists_less.Goals as goal

pub returns-in_default : goal.returns-in_default
returns-in_default = grind (arith, common_steps)
