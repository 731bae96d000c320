use Rattle.std.proofs.Common.{rules}
use Rattle.deleg.proofs.query.target_of.Goals as goal

pub returns : goal.returns
returns = search rules
