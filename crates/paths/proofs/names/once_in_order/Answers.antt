use Rattle.std.proofs.Common.{rules}
use Rattle.paths.proofs.Naming.{in_order}
use Rattle.paths.proofs.names.once_in_order.Goals as goal

pub returns : goal.returns
returns c = search (rules, in_order)
