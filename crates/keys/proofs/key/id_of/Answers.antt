use Rattle.std.proofs.Common.{rules}
use Rattle.keys.proofs.key.id_of.Goals as goal

pub returns-in_err-text : goal.returns-in_err-text
returns-in_err-text = search rules

pub returns : goal.returns
returns = search rules
