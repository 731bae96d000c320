-- The same checks have the same result, and what holds of a reason holds of the one returned.
use Rattle.std.proofs.Common.{◌≡◌, ◌∙◌, Result, Ok, Err, IfOk, ap, subst}
use Rattle.reasons.specs.Reasons.{Explains, Reason}
use Rattle.reasons.specs.declared.reason.Ended.{Ended}

pub gives : {A B : Type 0} (x y : Result A Reason) (r : Result B Ended) (seen : B → A) → x ≡ y → Explains x r seen → Explains y r seen
gives x y r seen e h = subst (λ z. Explains z r seen) e h

pub if_same : {A B E : Type 0} (r : Result A E) (x : A) (f : A → B) (b : B) → IfOk r (λ o. o ≡ x) → f x ≡ b → IfOk r (λ o. f o ≡ b)
if_same (Ok o) x f b h told = ap f h ∙ told
if_same (Err e) x f b h told = tt
