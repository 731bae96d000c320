use Rattle.std.proofs.Common.{rules}
use Rattle.memory.proofs.cache.Remembered.find.Goals as goal

pub returns : goal.returns
returns = search rules
