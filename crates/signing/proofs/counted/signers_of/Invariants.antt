use Rattle.std.proofs.Common.{◌≡◌, take}
use Rattle.keys.specs.Keys.{signers}
use Rattle.cjson.specs.Document.{doc_of}
use Rattle.signing.proofs.counted.signers_of.Given as goal

abbrev pub invariant-loop-key : goal.invariant-loop-key
invariant-loop-key l =
    l.signers ≡ signers (doc_of l.doc).text (doc_of l.doc).entries (take l.key-index l.key-items) l.role
