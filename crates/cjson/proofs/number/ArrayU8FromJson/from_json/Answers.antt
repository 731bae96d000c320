use Rattle.std.proofs.Common.{rules}
use Rattle.cjson.proofs.number.ArrayU8FromJson.from_json.Goals as goal

pub returns : goal.returns
returns = search rules
