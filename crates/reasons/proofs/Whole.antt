-- Who signed, from its parts.
use Rattle.std.proofs.Common.{◌≡◌, Result, Ok, Err, IfOk}
use Rattle.std.specs.FinSet as set
use Rattle.cjson.specs.Document.{Document}
use Rattle.keys.specs.Keys.{is_met, signers}
use Rattle.signing.specs.Signers.{findings, id_count}
use Rattle.signing.specs.declared.signing.Signing.{Signing}
use Rattle.reasons.specs.Reasons.{By, signing_by}

pub whole : {E : Type 0} (b : By) (d : Document) (r : Result Signing E) → IfOk r (λ s. s.is_met ≡ is_met d.text d.entries b.ring b.role) → IfOk r (λ s. s.threshold ≡ b.role.threshold)
    → IfOk r (λ s. s.signed ≡ set.len (signers d.text d.entries b.ring b.role)) → IfOk r (λ s. s.listed ≡ id_count b.role)
    → IfOk r (λ s. s.keys ≡ findings d.text d.entries b.keys b.ring b.role) → IfOk r (λ s. s ≡ signing_by b d)
whole b d (Ok s) m t n l k = λ i. record { is_met = m i; threshold = t i; signed = n i; listed = l i; keys = k i }
whole b d (Err e) m t n l k = tt
