use Rattle.std.proofs.Common.{rules}
use Rattle.cjson.proofs.text.Text.into_string.Goals as goal

pub returns : goal.returns
returns = search rules
