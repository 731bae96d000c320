use Rattle.std.proofs.Common.{rules}
use Rattle.deleg.proofs.edge.edge_at.Goals as goal

pub returns-in-Binned : goal.returns-in-Binned
returns-in-Binned = search rules
