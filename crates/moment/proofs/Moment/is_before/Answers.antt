use Rattle.std.proofs.Common.{rules}
use Rattle.moment.proofs.Moment.is_before.Goals as goal

pub returns : goal.returns
returns = search rules
