use Rattle.std.proofs.Common.{rules}
use Rattle.inout.proofs.quote.push_byte.Goals as goal

pub returns-in_default : goal.returns-in_default
returns-in_default = search rules
