use Rattle.std.proofs.Common.{rules}
use Rattle.examine.proofs.examined.examine.Goals as goal

pub returns-in-Ok-None : goal.returns-in-Ok-None
returns-in-Ok-None = search rules

pub returns-in-Err-Refused : goal.returns-in-Err-Refused
returns-in-Err-Refused = search rules
