use Rattle.std.proofs.Common.{rules}
use Rattle.cjson.proofs.doc.read.signed_bytes.Goals as goal

pub invariant_of-result : goal.invariant_of-result
invariant_of-result = search rules
