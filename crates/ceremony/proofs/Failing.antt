-- Causes of failures.
use Rattle.std.proofs.Common.{◌≡◌, ◌≢◌, ◌⊎◌, inl, inr, subst, sym, ◌∙◌, Result, Ok, Err, IfErr}
use Rattle.failure.specs.Failures.{IsLate}
use Rattle.failure.specs.declared.failure.Failure.{Failure}
use Rattle.failure.specs.declared.failure.Failure.TheVariants.{Input, Output, Memory}

-- of a file that wasn't read
pub of_input : (is : Failure → Type 0) (why : Type 0) (f : Failure) → is Memory → (why → is Input) → (f ≡ Memory) ⊎ (f ≡ Input) → (f ≢ Memory → why) → is f
of_input is why f memory input (inl e) cause = subst is (sym e) memory
of_input is why f memory input (inr e) cause = subst is (sym e) (input (cause (λ h. cc (e, h))))

-- of what wasn't stored or written
pub of_output : (is : Failure → Type 0) (why : Type 0) (f : Failure) → is Memory → (why → is Output) → IsLate f → (f ≢ Memory → why) → is f
of_output is why f memory output (inl e) cause = subst is (sym e) memory
of_output is why f memory output (inr e) cause = subst is (sym e) (output (cause (λ h. cc (e, h))))

-- ---- the same of a result that is this failure

pub unread : {A : Type 0} (is : Failure → Type 0) (why : Type 0) (r : Result A Failure) (f : Failure) → r ≡ Err f → is Memory → (why → is Input) → (f ≡ Memory) ⊎ (f ≡ Input) → (f ≢ Memory → why) → IfErr r is
unread is why r f same memory input either cause = subst (λ r. IfErr r is) (sym same) (of_input is why f memory input either cause)

pub late : {A : Type 0} (is : Failure → Type 0) (why : Type 0) (r : Result A Failure) (f : Failure) → r ≡ Err f → is Memory → (why → is Output) → IsLate f → (f ≢ Memory → why) → IfErr r is
late is why r f same memory output either cause = subst (λ r. IfErr r is) (sym same) (of_output is why f memory output either cause)
