-- A system of which nothing is known.
use Rattle.std.proofs.Common.{◌≡◌, ◌<◌, ℕ, true, refl, replicate, Result, Ok, Err, IfErr, length, subst, suc, sym, arith}
use Rattle.std.proofs.lemmas.List.{length-replicate}
use Rattle.system.specs.Bounds.{IsLonger}

-- a file of which any bytes may be read may have too many
pub longer_any : {A E : Type 0} (P : E → Type 0) (r : Result A E) (most : ℕ) → IfErr r (λ e. P e → IsLonger most (λ _. true))
longer_any P (Ok x) most = tt
longer_any P (Err e) most = λ _. (replicate (suc most) 0, (refl, subst (λ n. most < n) (sym (length-replicate (suc most) 0)) (omega arith)))
