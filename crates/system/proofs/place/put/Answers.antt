use Rattle.std.proofs.Common.{rules}
use Rattle.system.proofs.place.put.Goals as goal

pub returns-clause-kept : goal.returns-clause-kept
returns-clause-kept = search rules
