use Rattle.std.proofs.Common.{rules}
use Rattle.meta.proofs.reading.read_snapshot.Goals as goal

pub returns : goal.returns
returns = search rules
