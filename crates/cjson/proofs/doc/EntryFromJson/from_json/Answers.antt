use Rattle.std.proofs.Common.{rules}
use Rattle.cjson.proofs.doc.EntryFromJson.from_json.Goals as goal

pub returns : goal.returns
returns = search rules
