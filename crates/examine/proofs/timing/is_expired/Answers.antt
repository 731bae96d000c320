use Rattle.std.proofs.Common.{rules}
use Rattle.examine.proofs.timing.is_expired.Goals as goal

pub returns : goal.returns
returns = search rules
