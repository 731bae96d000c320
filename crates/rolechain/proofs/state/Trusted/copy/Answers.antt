use Rattle.std.proofs.Common.{rules}
use Rattle.rolechain.proofs.state.Trusted.copy.Goals as goal

pub returns : goal.returns
returns = search rules
