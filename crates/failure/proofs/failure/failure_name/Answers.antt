use Rattle.std.proofs.Common.{rules}
use Rattle.failure.proofs.failure.failure_name.Goals as goal

pub returns-in-Clock : goal.returns-in-Clock
returns-in-Clock = search rules
