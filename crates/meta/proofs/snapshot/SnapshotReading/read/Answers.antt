use Rattle.std.proofs.Common.{rules}
use Rattle.meta.proofs.snapshot.SnapshotReading.read.Goals as goal

pub returns : goal.returns
returns = search rules
