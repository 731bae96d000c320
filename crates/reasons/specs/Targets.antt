-- Why a target's file is refused, by the length and the digests that it was found to have (TUF 1.0
-- section 5.7).
use Rattle.std.specs.Prelude.{◌≡◌, ℕ, List, Option, Some, None, IfSome, length, Result, ⊤}
use Rattle.cjson.specs.Document.{◌>>=◌, or_refuse}
use Rattle.keys.specs.Keys.{digest_by}
use Rattle.keys.specs.declared.judge.Algorithm.TheVariants.{Sha256, Sha512}
use Rattle.meta.specs.Content.{content}
use Rattle.meta.specs.declared.fault.Fault.{Fault}
use Rattle.meta.specs.declared.fault.Fault.TheVariants as fault
use Rattle.meta.specs.declared.hashes.Hashes.{Hashes}
use Rattle.meta.specs.declared.targets.Target.{Target}
use Rattle.folder.specs.declared.measure.Measure.{Measure}
use Rattle.reasons.specs.Reasons.{sha256_pair, sha512_pair, size_check, digest_check}
use Rattle.reasons.specs.declared.reason.Differing.{Differing}
use Rattle.reasons.specs.declared.reason.Sha256Pair.{Sha256Pair}
use Rattle.reasons.specs.declared.reason.Sha512Pair.{Sha512Pair}
use Rattle.reasons.specs.declared.reason.Reason.{Reason}
use Rattle.reasons.specs.declared.reason.Reason.TheVariants as reason

-- the listed digest and the one that was found, if there are both and they differ
abbrev pub sha256_measured : Option (List ℕ) → Option (List ℕ) → Option Sha256Pair
sha256_measured None found = None
sha256_measured (Some listed) None = None
sha256_measured (Some listed) (Some found) = sha256_pair (Some listed) found

abbrev pub sha512_measured : Option (List ℕ) → Option (List ℕ) → Option Sha512Pair
sha512_measured None found = None
sha512_measured (Some listed) None = None
sha512_measured (Some listed) (Some found) = sha512_pair (Some listed) found

abbrev pub differing_from : Hashes → Measure → Differing
differing_from h m = record {
  sha256 = sha256_measured h.sha256 m.sha256;
  sha512 = sha512_measured h.sha512 m.sha512;
}

abbrev pub measure_check : Target → Measure → Result ⊤ Reason
measure_check t m = do
  sized ← size_check t.length m.length
  digest_check t.hashes (differing_from t.hashes m)

-- of a file that is there, if it was measured
abbrev pub target_check : Target → Option Measure → Result ⊤ Reason
target_check t found = do
  m ← or_refuse found reason.Missing
  measure_check t m

-- ---- the law

-- the measure has the length of the bytes, and those of their digests that are listed
pub record IsMeasureOf (t : Target) (m : Measure) (bytes : List ℕ) : Type 0 where
  pub length : m.length ≡ length bytes
  pub sha256 : IfSome t.hashes.sha256 (λ d. m.sha256 ≡ Some (digest_by Sha256 bytes))
  pub sha512 : IfSome t.hashes.sha512 (λ d. m.sha512 ≡ Some (digest_by Sha512 bytes))

-- there is a measure exactly if there is a file, and it is the file's
abbrev pub IsFound : Target → Option Measure → Option (List ℕ) → Type 0
IsFound t (Some m) (Some bytes) = IsMeasureOf t m bytes
IsFound t None None = ⊤
IsFound t _ _ = ⊥

-- the workflow's check of the file
abbrev pub checked : Target → Option (List ℕ) → Result ⊤ Fault
checked t file = do
  bytes ← or_refuse file fault.Missing
  content None (Some t.length) (Some t.hashes) bytes
