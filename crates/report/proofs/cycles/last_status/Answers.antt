use Rattle.std.proofs.Common.{rules}
use Rattle.report.proofs.cycles.last_status.Goals as goal

pub returns-in-Some-clause-status : goal.returns-in-Some-clause-status
returns-in-Some-clause-status = search rules
