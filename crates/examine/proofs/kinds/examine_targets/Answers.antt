use Rattle.std.proofs.Common.{rules}
use Rattle.examine.proofs.kinds.examine_targets.Goals as goal

pub returns-in_err-check_order : goal.returns-in_err-check_order
returns-in_err-check_order = search rules

pub returns : goal.returns
returns = search rules
