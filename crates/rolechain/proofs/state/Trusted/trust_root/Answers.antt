use Rattle.std.proofs.Common.{rules}
use Rattle.rolechain.proofs.state.Trusted.trust_root.Goals as goal

pub returns : goal.returns
returns = search rules
