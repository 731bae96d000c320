use Rattle.std.proofs.Common.{rules}
use Rattle.meta.proofs.content.Content.check.Goals as goal

pub returns-in_err-refuse_if-3 : goal.returns-in_err-refuse_if-3
returns-in_err-refuse_if-3 = search rules

pub returns-in_err-refuse_if : goal.returns-in_err-refuse_if
returns-in_err-refuse_if = search rules

pub returns : goal.returns
returns = search rules
