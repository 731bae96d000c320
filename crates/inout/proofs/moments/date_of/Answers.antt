use Rattle.std.proofs.Common.{rules}
use Rattle.inout.proofs.moments.date_of.Goals as goal

pub returns : goal.returns
returns = search rules

pub returns-then-not-contains : goal.returns-then-not-contains
returns-then-not-contains = search rules
