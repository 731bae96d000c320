use Rattle.std.proofs.Common.{rules}
use Rattle.meta.proofs.header.read_header.Goals as goal

pub returns : goal.returns
returns = search rules
