use Rattle.std.proofs.Common.{◌∙◌, ◌&&◌, refl, ap}
use Rattle.keys.specs.Keys.{has_entry, has_signed}
use Rattle.cjson.specs.Document.{doc_of}
use Rattle.keys.proofs.Sets.{added_to, signed_more}
use Rattle.signing.proofs.counted.signers_of.Goals as goal
use Rattle.signing.proofs.counted.signers_of.Goals.{then-has_signed+in_ok-add, else-has_signed}

pub loop-key-preserved : goal.loop-key-preserved
loop-key-preserved c =
    let d = doc_of c.args.doc.now in
    signed_more (has_signed d.text d.entries c.args.role.now) c.keys-key-items.result.now c.loop-key.key-index c.key-item.result c.has_signed.result _ _ c.loop-key-test.true c.key-item.is
    (c.has_signed.ensures ∙ ap (λ b. b && has_entry d.text d.entries c.key-item.result) (c.in_ok-listed.ensures.ids c.key-item.result.id)) c.loop-key.invariant
    (elim c.if-has_signed.branch [
      | then-has_signed+in_ok-add w ↦ rw w.if-has_signed.true (added_to c.loop-key.signers _ _ _ _ w.signers-is w.in_ok-add.ensures.ok refl)
      | else-has_signed w ↦ rw w.if-has_signed.false w.signers-is
    ])
