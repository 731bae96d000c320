use Rattle.std.proofs.Common.{rules}
use Rattle.measured.proofs.check.check_measure.Goals as goal

pub returns-in_err-refuse_if-2 : goal.returns-in_err-refuse_if-2
returns-in_err-refuse_if-2 = search rules
