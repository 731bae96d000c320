use Rattle.std.proofs.Common.{rules}
use Rattle.rolechain.proofs.rotation.has_other_ids.Goals as goal

pub returns : goal.returns
returns = search rules
