use Rattle.std.proofs.Common.{rules}
use Rattle.rolechain.proofs.state.Trusted.is_ready.Goals as goal

pub returns-then-is_some-2 : goal.returns-then-is_some-2
returns-then-is_some-2 = search rules
