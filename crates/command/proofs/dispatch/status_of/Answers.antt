use Rattle.std.proofs.Common.{rules}
use Rattle.command.proofs.dispatch.status_of.Goals as goal

pub returns-in-Ok-clause-status : goal.returns-in-Ok-clause-status
returns-in-Ok-clause-status = search rules
