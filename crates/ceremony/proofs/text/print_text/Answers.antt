use Rattle.std.proofs.Common.{inl, inr, rules}
use Rattle.ceremony.proofs.Failing.{late, unread}
use Rattle.ceremony.proofs.text.print_text.Goals as goal

pub returns-in_err-file-clause-cause : goal.returns-in_err-file-clause-cause
returns-in_err-file-clause-cause g c = unread _ _ c.from_residual.result c.in_err-file.field-0.0 (search rules) tt (λ h. h) c.in_err-file.ensures.refused c.in_err-file.ensures.cause

pub returns-in_err-put_bytes-in-Ok-clause-cause : goal.returns-in_err-put_bytes-in-Ok-clause-cause
returns-in_err-put_bytes-in-Ok-clause-cause g c = late _ _ c.from_residual-in_err-put_bytes-in-Ok.result c.in_err-put_bytes-in-Ok.field-0.0 (search rules) tt (λ h. h) c.in_err-put_bytes-in-Ok.ensures.refused (λ _. inl (record {
  file = c.in_ok-file.file.items;
  text = c.in-Ok.text.items;
  read = c.in_ok-file.ensures.given;
  signed = search rules;
  more = tt;
}))

pub returns-in_err-put_refusal-in-Err-clause-cause : goal.returns-in_err-put_refusal-in-Err-clause-cause
returns-in_err-put_refusal-in-Err-clause-cause g c = late _ _ c.from_residual-in_err-put_refusal-in-Err.result c.in_err-put_refusal-in-Err.field-0.0 (search rules) tt (λ h. h) c.in_err-put_refusal-in-Err.ensures.refused (λ _. inr (record {
  file = c.in_ok-file.file.items;
  fault = c.in-Err.fault;
  read = c.in_ok-file.ensures.given;
  memory = search rules;
  refused = search rules;
  more = tt;
}))
