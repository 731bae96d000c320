use Rattle.std.proofs.Common.{rules}
use Rattle.meta.proofs.snapshot.Snapshot.find.Goals as goal

pub returns : goal.returns
returns = search rules
