use Rattle.std.proofs.Common.{rules}
use Rattle.report.proofs.lines.root_line.Goals as goal

pub returns : goal.returns
returns = search rules
