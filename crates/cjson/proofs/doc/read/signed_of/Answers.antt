use Rattle.std.proofs.Common.{rules}
use Rattle.cjson.proofs.doc.read.signed_of.Goals as goal

pub returns-in-Some : goal.returns-in-Some
returns-in-Some = search rules
