use Rattle.std.proofs.Common.{◌∙◌, ◌++◌, sym, ap, ap₂, map, not, subst, Some, None, if◌then◌else◌}
use Rattle.hex.specs.Hex.{encode_lower}
use Rattle.keys.specs.Keys.{has_entry, is_signed_by}
use Rattle.seals.specs.Sealed.{entry_object}
use Rattle.signing.specs.Attached.{IsAttached, IsRefused, new_entry, staying}
use Rattle.signing.specs.Drafts.{document_of}
use Rattle.signing.specs.Invalids.{leaf_in, reason}
use Rattle.signing.specs.declared.attaching.Attached.{Attached}
use Rattle.signing.specs.declared.fault.AttachFault.TheVariants.{Signature}
use Rattle.signing.proofs.Joined.{attached-by, refused-by}
use Rattle.signing.proofs.attaching.attach.Goals as goal

pub returns-clause-attached : goal.returns-clause-attached
returns-clause-attached c =
    let d = document_of c.in_ok-draft.draft in
    let key = c.args.key.now in
    let signed = ap₂ (λ t s. is_signed_by key.public t (encode_lower s)) c.deref.ensures.value c.deref-2.ensures.value in
    let there = c.has_entry-is_there.ensures.value ∙ ap₂ (λ t es. has_entry t es key) c.deref-3.ensures.value c.as_slice.ensures.value in
    let digits = c.in-Ok.ensures.digits ∙ ap encode_lower c.deref-2.ensures.value in
    let new = c.new_text-new.ensures ∙ ap₂ (λ b s. if b then None else Some s) there digits in
    let made : Attached = record { file = c.in_ok-file.file; leaf = c.leaf_in.result; is_new = not c.has_entry-is_there.result } in
    subst (λ s. IsAttached c.args.file.now key s made) c.in_ok-sig.ensures
    (attached-by c.args.file.now _ d key c.in_ok-sig.sig.items made c.in_ok-value.ensures.ok c.in_ok-draft.ensures.ok (sym signed ∙ c.in-Ok.ensures.valid)
    (c.in_ok-file.ensures.file _ _ (c.in_ok-entries.ensures ∙ ap (λ n. map entry_object (staying key d.text d.entries ++ new_entry key n)) new) c.in_ok-draft.ensures.text)
    (ap not there) (c.leaf_in.ensures.value ∙ ap leaf_in c.deref-4.ensures.value))

pub returns-in-Err-clause-refused : goal.returns-in-Err-clause-refused
returns-in-Err-clause-refused c =
    let d = document_of c.in_ok-draft.draft in
    let key = c.args.key.now in
    let signed = ap₂ (λ t s. is_signed_by key.public t (encode_lower s)) c.deref.ensures.value c.deref-2.ensures.value in
    subst (λ s. IsRefused c.args.file.now key s c.in-Err.fault) c.in_ok-sig.ensures
    (refused-by c.args.file.now _ d key c.in_ok-sig.sig.items c.in-Err.fault c.in_ok-value.ensures.ok c.in_ok-draft.ensures.ok
    (λ h. c.in-Err.ensures.reason h ∙ ap (λ s. Signature (reason key.public s)) c.deref-2.ensures.value)
    (λ h. sym signed ∙ c.in-Err.ensures.invalid h))
