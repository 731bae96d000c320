use Rattle.std.proofs.Common.{rules}
use Rattle.meta.proofs.root.RootReading.limit.Goals as goal

pub returns : goal.returns
returns = search rules
