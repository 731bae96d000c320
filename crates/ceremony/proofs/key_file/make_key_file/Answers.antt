use Rattle.std.proofs.Common.{◌⊎◌, inl, inr, rules}
use Rattle.ceremony.proofs.Failing.{late, unread}
use Rattle.ceremony.proofs.key_file.make_key_file.Goals as goal

or_more : {A B C : Type 0} → A ⊎ B → (B → C) → A ⊎ C
or_more (inl a) f = inl a
or_more (inr b) f = inr (f b)

pub returns-in_err-file-clause-cause : goal.returns-in_err-file-clause-cause
returns-in_err-file-clause-cause g c = unread _ _ c.from_residual.result c.in_err-file.field-0.0 (search rules) tt (λ h. h) c.in_err-file.ensures.refused c.in_err-file.ensures.cause

pub returns-in_err-keep_key-in-Ok-clause-cause : goal.returns-in_err-keep_key-in-Ok-clause-cause
returns-in_err-keep_key-in-Ok-clause-cause g c = late _ _ c.from_residual-in_err-keep_key-in-Ok.result c.in_err-keep_key-in-Ok.field-0.0 (search rules) tt (λ h. or_more h (λ kept. inl (record {
  file = c.in_ok-file.file.items;
  key = c.in-Ok.new.key;
  text = c.in-Ok.new.text.items;
  read = c.in_ok-file.ensures.given;
  public = search rules;
  object = c.in-Ok.ensures.text;
  id = c.in-Ok.ensures.id;
  usable = c.in-Ok.ensures.usable;
  kept = kept;
  more = tt;
}))) c.in_err-keep_key-in-Ok.ensures.refused c.in_err-keep_key-in-Ok.ensures.cause

pub returns-in_err-put_refusal-in-Err-clause-cause : goal.returns-in_err-put_refusal-in-Err-clause-cause
returns-in_err-put_refusal-in-Err-clause-cause g c = late _ _ c.from_residual-in_err-put_refusal-in-Err.result c.in_err-put_refusal-in-Err.field-0.0 (search rules) tt (λ h. h) c.in_err-put_refusal-in-Err.ensures.refused (λ _. inr (inr (record {
  file = c.in_ok-file.file.items;
  fault = c.in-Err.fault;
  read = c.in_ok-file.ensures.given;
  memory = search rules;
  refused = search rules;
  more = tt;
})))
