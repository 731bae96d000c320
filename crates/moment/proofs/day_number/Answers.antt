use Rattle.std.proofs.Common.{rules}
use Rattle.moment.proofs.day_number.Goals as goal

pub returns-in-Ok-clause-value : goal.returns-in-Ok-clause-value
returns-in-Ok-clause-value = search rules
