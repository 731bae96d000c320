use Rattle.std.proofs.Common.{◌≡◌, drop}
use Rattle.std.specs.List.{list_any}
use Rattle.cjson.specs.Document.{doc_of}
use Rattle.keys.specs.Keys.{has_entry, is_signed_by}
use Rattle.keys.proofs.threshold.has_signed.Given as goal

abbrev pub invariant-loop-placed : goal.invariant-loop-placed
invariant-loop-placed g l =
    has_entry (doc_of l.signed.doc.now).text (doc_of l.signed.doc.now).entries l.key ≡ list_any (λ p. is_signed_by l.key.public (doc_of l.signed.doc.now).text p.sig.now) (drop l.placed-index l.under)
