-- The result of an examination, along an equation between expectations.
use Rattle.std.proofs.Common.{◌≡◌, ℕ, List, Result, subst}
use Rattle.keys.specs.declared.key.Key.{Key}
use Rattle.keys.specs.declared.role_keys.RoleKeys.{RoleKeys}
use Rattle.meta.specs.Content.{Answers}
use Rattle.meta.specs.declared.fault.Fault.{Fault}
use Rattle.meta.specs.declared.fault.Stop.{Stop}
use Rattle.examine.specs.Checks.{Expectation}
use Rattle.rolechain.specs.Advance.{expected}
use Rattle.examine.specs.declared.expectation.Listed.{Listed}

pub along : {A : Type 0} (F : Expectation → Result A Fault) (d e : Expectation) (r : Result A Stop) → d ≡ e → Answers (F d) r (λ p. p) → Answers (F e) r (λ p. p)
along F d e r same h = subst (λ x. Answers (F x) r (λ p. p)) same h

-- the same along an equation between the results of the checks
pub gives : {A : Type 0} (a b : Result A Fault) (r : Result A Stop) → a ≡ b → Answers a r (λ p. p) → Answers b r (λ p. p)
gives a b r same h = subst (λ x. Answers x r (λ p. p)) same h

pub same_expected : (a b : List ℕ) (k l : Listed) (m n : List Key) (r s : RoleKeys) → a ≡ b → k ≡ l → m ≡ n → r ≡ s → expected a k m r ≡ expected b l n s
same_expected a b k l m n r s e f g h = cc
