use Rattle.std.proofs.Common.{rules}
use Rattle.meta.proofs.timestamp.TimestampReading.read.Goals as goal

pub returns : goal.returns
returns = search rules
