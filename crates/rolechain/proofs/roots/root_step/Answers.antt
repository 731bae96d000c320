use Rattle.std.proofs.Common.{rules}
use Rattle.rolechain.proofs.roots.root_step.Goals as goal

pub returns : goal.returns
returns = search rules
