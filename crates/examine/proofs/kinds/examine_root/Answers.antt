use Rattle.std.proofs.Common.{rules}
use Rattle.examine.proofs.kinds.examine_root.Goals as goal

pub returns-in_err-refuse_if : goal.returns-in_err-refuse_if
returns-in_err-refuse_if = search rules

pub returns-in_err-refuse_if-2 : goal.returns-in_err-refuse_if-2
returns-in_err-refuse_if-2 = search rules

pub returns : goal.returns
returns = search rules
