use Rattle.std.proofs.Common.{◌≡◌, drop}
use Rattle.std.specs.List.{list_any}
use Rattle.cjson.specs.Document.{doc_of}
use Rattle.keys.specs.Keys.{has_entry, is_signed_by}
use Rattle.signing.proofs.counted.has_signed.Given as goal

abbrev pub invariant-loop-placed : goal.invariant-loop-placed
invariant-loop-placed l =
    has_entry (doc_of l.doc).text (doc_of l.doc).entries l.key ≡ list_any (λ p. is_signed_by l.key.public (doc_of l.doc).text p.sig.now) (drop l.placed-index l.under)
