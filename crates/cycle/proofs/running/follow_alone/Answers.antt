use Rattle.std.proofs.Common.{rules}
use Rattle.cycle.proofs.running.follow_alone.Goals as goal

pub returns : goal.returns
returns = search rules
