use Rattle.std.proofs.Common.{◌∙◌, ◌&&◌, refl, ap, arith}
use Rattle.keys.specs.Keys.{has_entry, has_signed}
use Rattle.cjson.specs.Document.{doc_of}
use Rattle.keys.proofs.Sets.{added_to, met_early, signed_more}
use Rattle.std.proofs.lemmas.Grind.{common_steps}
use Rattle.keys.proofs.threshold.enough.Goals as goal
use Rattle.keys.proofs.threshold.enough.Goals.{then-branch+in_ok-add, else-branch}

pub returns-then-len-get : goal.returns-then-len-get
returns-then-len-get g c =
    let d = doc_of c.args.doc.now in
    record { met = met_early (has_signed d.text d.entries c.args.role.now) c.keys-key-items.result.now c.args.ring.now c.loop-key.key-index _ _ _ _ c.keys-key-items.ensures.value c.loop-key.invariant c.len.ensures.value c.get.ensures.value c.if-len-get.true }

pub loop-key-preserved : goal.loop-key-preserved
loop-key-preserved g c =
    let d = doc_of c.args.doc.now in
    signed_more (has_signed d.text d.entries c.args.role.now) c.keys-key-items.result.now c.loop-key.key-index c.key-item.result c.in_ok-has_signed.field-0 _ _ c.loop-key-test.true c.key-item.is
    (c.in_ok-has_signed.ensures ∙ ap (λ b. b && has_entry d.text d.entries c.key-item.result) (c.in_ok-listed.ensures.ids c.key-item.result.id)) c.loop-key.invariant
    (elim c.if-branch.branch [
      | then-branch+in_ok-add w ↦ rw w.if-branch.true (added_to c.loop-key.signers _ _ _ _ w.signers-is w.in_ok-add.ensures.ok refl)
      | else-branch w ↦ rw w.if-branch.false w.signers-is
    ])

pub returns : goal.returns
returns = grind (arith, common_steps)
