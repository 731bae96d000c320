use Rattle.std.proofs.Common.{rules}
use Rattle.rolechain.proofs.text.text_of.Goals as goal

pub returns : goal.returns
returns = search rules
