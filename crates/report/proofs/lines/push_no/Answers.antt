use Rattle.std.proofs.Common.{rules}
use Rattle.report.proofs.lines.push_no.Goals as goal

pub returns : goal.returns
returns = search rules
