use Rattle.std.proofs.Common.{rules}
use Rattle.meta.proofs.targets.TargetsReading.read.Goals as goal

pub returns : goal.returns
returns = search rules
