use Rattle.std.proofs.Common.{rules}
use Rattle.cjson.proofs.text.is_text.Goals as goal

pub returns-in-Some : goal.returns-in-Some
returns-in-Some = search rules
