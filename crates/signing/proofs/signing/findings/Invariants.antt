use Rattle.std.proofs.Common.{◌≡◌, [], fold, drop}
use Rattle.cjson.specs.Document.{doc_of}
use Rattle.cjson.specs.Tree.{view}
use Rattle.signing.specs.Signers.{with_id}
use Rattle.signing.proofs.signing.findings.Given as goal

abbrev pub invariant-loop-id : goal.invariant-loop-id
invariant-loop-id l =
    let d = doc_of l.doc in
    let f = with_id d.text d.entries (view l.by.keys.now) l.by.ring.now in
    fold f [] l.by.role.now.ids ≡ fold f l.all.items (drop l.id-index l.by.role.now.ids)
