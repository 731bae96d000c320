use Rattle.std.proofs.Common.{rules}
use Rattle.cjson.proofs.number.Within.new.Goals as goal

pub returns-else-number-clause-some : goal.returns-else-number-clause-some
returns-else-number-clause-some = search rules
