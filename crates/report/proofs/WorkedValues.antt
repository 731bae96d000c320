-- Worked values of the definitions.
use Rattle.std.proofs.Common.{◌≡◌, [], ◌∷◌, ◌++◌, false, None, Some, refl, codes}
use Rattle.std.specs.Fmt.{digits}
use Rattle.hex.proofs.OnLiterals.{hex_on_literals}
use Rattle.meta.specs.declared.fault.Fault.TheVariants as fault
use Rattle.rolechain.specs.declared.end.Step.TheVariants as step
use Rattle.rolechain.specs.declared.end.End.TheVariants.{Ready, Stopped}
use Rattle.cycle.specs.declared.verdict.Verdict.TheVariants.{FileRefused, Good, NotFound, RoleRefused, NotSearched}
use Rattle.report.specs.Lines.{root_text, end_text, role_text, path_texts, stored_text, verdict_text}

root-line : root_text 1 ≡ codes "root 1" ++ 10 ∷ []
unfolding digits
root-line = refl

root-digits : root_text 18446744073709551615 ≡ codes "root 18446744073709551615" ++ 10 ∷ []
unfolding digits
root-digits = refl

ready-line : end_text Ready ≡ codes "end ready" ++ 10 ∷ []
ready-line = refl

stopped-line : end_text (Stopped step.Targets fault.HashWrong) ≡ codes "end targets HashWrong" ++ 10 ∷ []
stopped-line = refl

role-line : role_text (record { role = codes "apps"; version = 12 }) ≡ codes "role \"apps\" 12" ++ 10 ∷ []
unfolding digits
role-line = refl

good-line : verdict_text (codes "abc.txt") (Good (codes "targets") 3) ≡ codes "ok \"abc.txt\" 3 \"targets\"" ++ 10 ∷ []
unfolding digits
good-line = refl

refused-line : verdict_text (codes "a") (RoleRefused (codes "b\"") fault.Unsigned) ≡ codes "no \"a\" Unsigned \"b\\x22\"" ++ 10 ∷ []
unfolding hex_on_literals
refused-line = refl

-- an accepted path without a copy
placeless-line : stored_text (codes "a\"") (Good (codes "targets") 3) false ≡ codes "no \"a\\x22\" NoPlace" ++ 10 ∷ []
unfolding hex_on_literals
placeless-line = refl

-- each path has its own verdict
two-lines : path_texts (NotFound ∷ NotSearched ∷ []) [] None (codes "a" ∷ codes "b" ∷ [])
    ≡ codes "no \"a\" NotFound" ++ 10 ∷ codes "no \"b\" NotSearched" ++ 10 ∷ []
two-lines = refl

-- and is followed by why it is refused
two-reasons : path_texts (FileRefused fault.Missing ∷ NotFound ∷ []) [] (Some (codes "why 1" ∷ [] ∷ [])) (codes "a" ∷ codes "b" ∷ [])
    ≡ codes "no \"a\" Missing" ++ 10 ∷ codes "why 1" ++ codes "no \"b\" NotFound" ++ 10 ∷ []
two-reasons = refl

-- a path without a verdict has no line
no-line : path_texts (NotFound ∷ []) [] None (codes "a" ∷ codes "b" ∷ []) ≡ codes "no \"a\" NotFound" ++ 10 ∷ []
no-line = refl
