-- The reason of a target's file is of the workflow's fault, if the measure is the file's.
use Rattle.std.proofs.Common.{◌≡◌, ◌∙◌, ℕ, ◌||◌, not, is_some, List, Option, Some, None, Result, Ok, Err, option_map, refl, ap}
use Rattle.std.specs.Prelude.{⊤, ◌==◌, IfSome}
use Rattle.cjson.specs.Document.{◌>>=◌, refuse_if}
use Rattle.keys.specs.Keys.{digest_by}
use Rattle.keys.specs.declared.judge.Algorithm.TheVariants.{Sha256, Sha512}
use Rattle.meta.specs.Content.{content, differs, has_no_known_hash, is_hash_wrong, is_length_wrong}
use Rattle.meta.specs.declared.fault.Fault.TheVariants as fault
use Rattle.meta.specs.declared.targets.Target.{Target}
use Rattle.folder.specs.declared.measure.Measure.{Measure}
use Rattle.reasons.specs.Reasons.{digest_check, fault_in, fault_of, has_difference, plain, reason_in, size_check}
use Rattle.reasons.specs.Targets.{IsFound, IsMeasureOf, checked, differing_from, measure_check, sha256_measured, sha512_measured, target_check}
use Rattle.reasons.specs.declared.reason.Reason.{Reason}
use Rattle.reasons.specs.declared.reason.Reason.TheVariants as reason
use Rattle.reasons.proofs.Plain.{plain-refuse, refuse-same, sha256-is, sha512-is, then-same}

sha256-found : (listed m : Option (List ℕ)) (found : List ℕ) → IfSome listed (λ d. m ≡ Some found) → is_some (sha256_measured listed m) ≡ differs listed found
sha256-found None m found h = refl
sha256-found (Some l) m found h = ap (λ m. is_some (sha256_measured (Some l) m)) h ∙ sha256-is (Some l) found

sha512-found : (listed m : Option (List ℕ)) (found : List ℕ) → IfSome listed (λ d. m ≡ Some found) → is_some (sha512_measured listed m) ≡ differs listed found
sha512-found None m found h = refl
sha512-found (Some l) m found h = ap (λ m. is_some (sha512_measured (Some l) m)) h ∙ sha512-is (Some l) found

difference-found : (t : Target) (m : Measure) (bytes : List ℕ) → IsMeasureOf t m bytes → has_difference (differing_from t.hashes m) ≡ is_hash_wrong t.hashes bytes
difference-found t m bytes h = λ i. sha256-found t.hashes.sha256 m.sha256 (digest_by Sha256 bytes) h.sha256 i || sha512-found t.hashes.sha512 m.sha512 (digest_by Sha512 bytes) h.sha512 i

size-plain : (listed found n : ℕ) → found ≡ n → plain (size_check listed found) ≡ refuse_if (not (listed == n)) fault.LengthWrong
size-plain listed found n e = plain-refuse (not (listed == found)) _ ∙ ap (λ k. refuse_if (not (listed == k)) fault.LengthWrong) e

measure-plain : (t : Target) (m : Measure) (bytes : List ℕ) → IsMeasureOf t m bytes → plain (measure_check t m) ≡ content None (Some t.length) (Some t.hashes) bytes
measure-plain t m bytes h =
    then-same _ _ _ _ (size-plain t.length m.length _ h.length) (λ x.
    then-same _ _ _ _ (refuse-same _ _ (reason.HashWrong (differing_from t.hashes m)) (difference-found t m bytes h)) (λ y. plain-refuse (has_no_known_hash t.hashes) reason.NoKnownHash))

told : (r : Result ⊤ Reason) → option_map fault_of (reason_in r) ≡ fault_in (plain r)
told (Ok x) = refl
told (Err w) = refl

pub found : (t : Target) (o : Option Measure) (file : Option (List ℕ)) → IsFound t o file → option_map fault_of (reason_in (target_check t o)) ≡ fault_in (checked t file)
found t (Some m) (Some bytes) h = told (measure_check t m) ∙ ap fault_in (measure-plain t m bytes h)
found t None None h = refl
found t (Some m) None h = absurd h
found t None (Some bytes) h = absurd h
