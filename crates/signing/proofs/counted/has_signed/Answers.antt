use Rattle.std.proofs.Common.{◌≡◌, ◌∙◌, ◌&&◌, false, rules, sym, ap, bytes_eq}
use Rattle.std.specs.List.{list_any}
use Rattle.cjson.specs.Document.{doc_of}
use Rattle.keys.specs.Keys.{has_entry, placed_of, sigs_under, is_signed_by}
use Rattle.keys.proofs.Found.{found}
use Rattle.signing.proofs.counted.has_signed.Goals as goal

pub returns-in_default : goal.returns-in_default
returns-in_default c =
    let d = doc_of c.args.doc.now in
    let is_by = is_signed_by c.args.key.now.public d.text in
    let none : has_entry d.text d.entries c.args.key.now ≡ false =
    ap (λ id. list_any (λ e. bytes_eq e.keyid id && is_by e.sig) d.entries) (sym c.as_str-2.ensures.value)
    ∙ found is_by c.as_str-2.result.now d.entries c.under.result (sigs_under c.args.entries.now.by_id c.as_str-2.result.now) c.under.ensures (c.requires c.as_str-2.result.now)
    ∙ ap (λ o. list_any (λ p. is_by p.sig.now) (placed_of o)) c.in_default.is in
    search (rules, none)

pub loop-placed-init : goal.loop-placed-init
loop-placed-init c =
    let d = doc_of c.args.doc.now in
    let is_by = is_signed_by c.args.key.now.public d.text in
    ap (λ id. list_any (λ e. bytes_eq e.keyid id && is_by e.sig) d.entries) (sym c.as_str-2.ensures.value)
    ∙ found is_by c.as_str-2.result.now d.entries c.under.result (sigs_under c.args.entries.now.by_id c.as_str-2.result.now) c.under.ensures (c.requires c.as_str-2.result.now)
    ∙ ap (λ o. list_any (λ p. is_by p.sig.now) (placed_of o)) c.in-Some.is
