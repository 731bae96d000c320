use Rattle.std.proofs.Common.{rules}
use Rattle.moment.proofs.Moment.at.Goals as goal

pub returns-clause-some : goal.returns-clause-some
returns-clause-some = search rules
