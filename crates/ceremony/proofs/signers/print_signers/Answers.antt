use Rattle.std.proofs.Common.{inl, inr, rules, subst}
use Rattle.ceremony.specs.SignedBy.{IsAnswer}
use Rattle.ceremony.proofs.Failing.{late, unread}
use Rattle.ceremony.proofs.signers.print_signers.Goals as goal

pub returns-in_err-file-clause-cause : goal.returns-in_err-file-clause-cause
returns-in_err-file-clause-cause g c = unread _ _ c.from_residual.result c.in_err-file.field-0.0 (search rules) tt (λ h. inl h) c.in_err-file.ensures.refused c.in_err-file.ensures.cause

pub returns-in_err-listing-clause-cause : goal.returns-in_err-listing-clause-cause
returns-in_err-listing-clause-cause g c = unread _ _ c.from_residual-in_err-listing.result c.in_err-listing.field-0.0 (search rules) tt (λ h. inr h) c.in_err-listing.ensures.refused c.in_err-listing.ensures.cause

pub returns-in_err-put-in-Ok-clause-cause : goal.returns-in_err-put-in-Ok-clause-cause
returns-in_err-put-in-Ok-clause-cause g c = late _ _ c.from_residual-in_err-put-in-Ok.result c.in_err-put-in-Ok.field-0.0 (search rules) tt (λ h. h) c.in_err-put-in-Ok.ensures.refused (λ _. inl (record {
  file = c.in_ok-file.file.items;
  listing = c.in_ok-listing.listing.items;
  signing = c.in-Ok.signing;
  read = c.in_ok-file.ensures.given;
  read_listing = c.in_ok-listing.ensures.given;
  said = search rules;
  more = tt;
}))

pub returns-in_err-put_refusal-in-Err-clause-cause : goal.returns-in_err-put_refusal-in-Err-clause-cause
returns-in_err-put_refusal-in-Err-clause-cause g c = late _ _ c.from_residual-in_err-put_refusal-in-Err.result c.in_err-put_refusal-in-Err.field-0.0 (search rules) tt (λ h. h) c.in_err-put_refusal-in-Err.ensures.refused (λ _. inr (record {
  file = c.in_ok-file.file.items;
  listing = c.in_ok-listing.listing.items;
  refusal = c.in-Err.refusal;
  read = c.in_ok-file.ensures.given;
  read_listing = c.in_ok-listing.ensures.given;
  refused = search rules;
  more = tt;
}))
