use Rattle.std.proofs.Common.{rules}
use Rattle.rolechain.proofs.steps.newer_timestamp.Goals as goal

pub returns : goal.returns
returns = search rules
