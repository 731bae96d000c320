use Rattle.cjson.specs.Document.{doc_of}
use Rattle.reasons.specs.Reasons.{by}
use Rattle.reasons.proofs.Whole.{whole}
use Rattle.reasons.proofs.signed.signing_by.Goals as goal

pub returns : goal.returns
returns c =
    let found = c.signing_of.ensures in
    whole (by c.args.by.now) (doc_of c.args.doc.now) c.signing_of.result found.met found.threshold found.signed found.listed found.keys
