use Rattle.std.proofs.Common.{◌⊎◌, subst, inl, inr, rules}
use Rattle.ceremony.specs.Entered.{IsAnswer, IsCause}
use Rattle.ceremony.proofs.Failing.{late, of_output, unread}
use Rattle.ceremony.proofs.files.attach_file.Goals as goal

or_more : {A B C : Type 0} → A ⊎ B → (B → C) → A ⊎ C
or_more (inl a) f = inl a
or_more (inr b) f = inr (f b)

pub returns-in-Ok-keep_entry-clause-attached : goal.returns-in-Ok-keep_entry-clause-attached
returns-in-Ok-keep_entry-clause-attached g c = λ _. record {
  file = c.in_ok-read.read.file.items;
  key_file = c.in_ok-read.read.key.items;
  sig = c.in_ok-read.read.sig.items;
  key = c.in-Ok.entered.key;
  attached = c.in-Ok.entered.attached;
  read = c.in_ok-read.ensures.file;
  read_key = c.in_ok-read.ensures.key;
  read_sig = c.in_ok-read.ensures.sig;
  entered = subst (IsAnswer c.in_ok-read.read.file.items c.in_ok-read.read.key.items c.in_ok-read.read.sig.items) c.in-Ok.is c.in_ok-entered.ensures.answer;
  kept = c.in-Ok-keep_entry.ensures.kept;
  more = c.in-Ok-keep_entry.ensures.line;
}

pub returns-in-Ok-clause-order : goal.returns-in-Ok-clause-order
returns-in-Ok-clause-order g c = or_more c.in-Err-keep_entry.ensures.order (λ kept. record {
  file = c.in_ok-read.read.file.items;
  key_file = c.in_ok-read.read.key.items;
  sig = c.in_ok-read.read.sig.items;
  key = c.in-Ok.entered.key;
  attached = c.in-Ok.entered.attached;
  read = c.in_ok-read.ensures.file;
  read_key = c.in_ok-read.ensures.key;
  read_sig = c.in_ok-read.ensures.sig;
  entered = subst (IsAnswer c.in_ok-read.read.file.items c.in_ok-read.read.key.items c.in_ok-read.read.sig.items) c.in-Ok.is c.in_ok-entered.ensures.answer;
  kept = kept;
  more = tt;
})

-- ---- why it fails

pub returns-in_err-read-clause-cause : goal.returns-in_err-read-clause-cause
returns-in_err-read-clause-cause g c = unread _ _ c.from_residual.result c.in_err-read.field-0.0 (search rules) tt (λ h. h) c.in_err-read.ensures.refused c.in_err-read.ensures.cause

pub returns-in-Ok-clause-cause : goal.returns-in-Ok-clause-cause
returns-in-Ok-clause-cause g c =
    of_output (IsCause (g.S.System.gives c.args.system.now) (g.S.System.refuses c.args.system.now) ((g.S.System.obstacles c.args.system.now).fails) c.args.paths.now (g.S.System.keeps c.keep_entry.new.system c.args.paths.now.to.now))
    _ c.in-Err-keep_entry.failure tt (λ h. or_more h (λ kept. inl (record {
      file = c.in_ok-read.read.file.items;
      key_file = c.in_ok-read.read.key.items;
      sig = c.in_ok-read.read.sig.items;
      key = c.in-Ok.entered.key;
      attached = c.in-Ok.entered.attached;
      read = c.in_ok-read.ensures.file;
      read_key = c.in_ok-read.ensures.key;
      read_sig = c.in_ok-read.ensures.sig;
      entered = subst (IsAnswer c.in_ok-read.read.file.items c.in_ok-read.read.key.items c.in_ok-read.read.sig.items) c.in-Ok.is c.in_ok-entered.ensures.answer;
      kept = kept;
      more = tt;
    }))) c.in-Err-keep_entry.ensures.refused c.in-Err-keep_entry.ensures.cause

pub returns-in_err-put_refusal-in-Err-clause-cause : goal.returns-in_err-put_refusal-in-Err-clause-cause
returns-in_err-put_refusal-in-Err-clause-cause g c = late _ _ c.from_residual-in_err-put_refusal-in-Err.result c.in_err-put_refusal-in-Err.field-0.0 (search rules) tt (λ h. h) c.in_err-put_refusal-in-Err.ensures.refused (λ _. inr (inr (record {
  file = c.in_ok-read.read.file.items;
  key_file = c.in_ok-read.read.key.items;
  sig = c.in_ok-read.read.sig.items;
  refusal = c.in-Err.refusal;
  read = c.in_ok-read.ensures.file;
  read_key = c.in_ok-read.ensures.key;
  read_sig = c.in_ok-read.ensures.sig;
  refused = subst (IsAnswer c.in_ok-read.read.file.items c.in_ok-read.read.key.items c.in_ok-read.read.sig.items) c.in-Err.is c.in_ok-entered.ensures.answer;
  more = tt;
})))
