use Rattle.std.proofs.Common.{arith}
use Rattle.std.proofs.lemmas.Grind.{common_steps}
use Rattle.tufcheck_c.proofs.answer.tufcheck_verify.Goals as goal

pub returns-in-Err-clause-status_range : goal.returns-in-Err-clause-status_range
returns-in-Err-clause-status_range = grind (arith, common_steps)
