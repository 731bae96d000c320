use Rattle.std.proofs.Common.{rules}
use Rattle.rolechain.proofs.text.kept_in.Goals as goal

pub returns : goal.returns
returns = search rules
