use Rattle.std.proofs.Common.{None, arith}
use Rattle.std.proofs.lemmas.Str.Pattern.{split_once_first}
use Rattle.paths.proofs.Naming.{whole}
use Rattle.paths.proofs.names.unhashed.Goals as goal

pub returns-in-None : goal.returns-in-None
returns-in-None c = whole c.args.name.now (split_once_first 46 c.args.name.now None c.in-None.ensures.cases (omega arith))
