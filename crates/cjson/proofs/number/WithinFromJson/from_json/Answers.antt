use Rattle.std.proofs.Common.{rules}
use Rattle.cjson.proofs.number.WithinFromJson.from_json.Goals as goal

pub invariant_of-result : goal.invariant_of-result
invariant_of-result = search rules

pub returns : goal.returns
returns = search rules
