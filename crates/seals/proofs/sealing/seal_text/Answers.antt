use Rattle.std.proofs.Common.{IsSome, refl, sym, subst, ap, ◌∙◌}
use Rattle.std.proofs.lemmas.Result.{IfOk-weaker}
use Rattle.cjson.specs.Canon.{canon}
use Rattle.seals.proofs.Seals.{IsSome-canon-sealed, spent_all}
use Rattle.seals.proofs.sealing.seal_text.Goals as goal

pub text_of-requires : goal.text_of-requires
text_of-requires c =
    let entries = c.in_ok-entries.ensures.entries in
    IsSome-canon-sealed _ _ entries.0 (subst IsSome (sym c.requires.text) refl) (c.in_ok-file.ensures.file entries.0 entries.1)

pub returns-in_err-file-clause-spent : goal.returns-in_err-file-clause-spent
returns-in_err-file-clause-spent c = spent_all _ c.args.by.now _ _ c.in_ok-entries.ensures.leaves

pub returns-clause-spent : goal.returns-clause-spent
returns-clause-spent c = spent_all _ c.args.by.now _ _ c.in_ok-entries.ensures.leaves

pub returns-clause-file : goal.returns-clause-file
returns-clause-file c =
    let entries = c.in_ok-entries.ensures.entries in
    IfOk-weaker c.text_of.result _ _ (λ file text. record {
      signed = c.args.text.now;
      signed_text = c.requires.text;
      entries = entries.0;
      signatures = entries.2;
      file_text = ap canon (sym (c.in_ok-file.ensures.file entries.0 entries.1)) ∙ text;
    }) c.text_of.ensures.text
