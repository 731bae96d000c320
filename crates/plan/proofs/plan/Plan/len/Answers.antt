use Rattle.std.proofs.Common.{rules, arith}
use Rattle.std.proofs.lemmas.Grind.{common_steps}
use Rattle.plan.proofs.plan.Plan.len.Goals as goal

pub returns-clause-count : goal.returns-clause-count
returns-clause-count = grind (arith, common_steps)

pub returns-clause-most : goal.returns-clause-most
returns-clause-most = search rules
