-- The length and the digests of a file.
use Rattle.std.specs.Prelude.{ℕ, Bool, true, Option, Some, None, if◌then◌else◌, is_some, IfSome, List, ◌++◌, ◌≡◌, ◌≤◌, ◌+◌, ◌⊎◌, length, take, drop, string_bytes}
use Rattle.std.specs.Io.KnownBytes.{Consumes, IsAtEnd}
use Rattle.sha2.specs.Sha256.{sha256}
use Rattle.sha2.specs.Sha512.{sha512}
use Rattle.sha2.specs.Hashers.{Holds256, Holds512}
use Rattle.folder.specs.declared.job.Done.{Done}
use Rattle.folder.specs.declared.measure.Measure.{Measure}
use Rattle.folder.specs.declared.measure.Measuring.{Measuring}
use Rattle.folder.specs.declared.measure.Need.{Need}

-- the length of the first bytes, and the digests of them that are wanted
abbrev pub measure_of : Need → List ℕ → Measure
measure_of need bytes = let start = take need.up_to bytes in record {
  length = length start;
  sha256 = if need.sha256 then Some (sha256 start) else None;
  sha512 = if need.sha512 then Some (sha512 start) else None;
}

-- the measure is that of some bytes
abbrev pub IsMeasure : Need → Measure → Type 0
IsMeasure need m = (bytes : List ℕ) × (m ≡ measure_of need bytes)

-- the measure is that of bytes which pass the test
abbrev pub IsMeasureOf : Need → (List ℕ → Bool) → Measure → Type 0
IsMeasureOf need test m = (bytes : List ℕ) × (test bytes ≡ true) × (m ≡ measure_of need bytes)

-- a file of the folder was measured, as far as its job says
abbrev pub IsMeasuredIn : (List ℕ → List ℕ → Bool) → Done → Type 0
IsMeasuredIn holds d = IsMeasureOf d.need (holds (string_bytes d.name)) d.measure

-- the first bytes of these were taken, as many as are wanted
pub record HasTaken (s : Measuring) (bytes : List ℕ) : Type 0 where
  pub length : s.length ≡ length (take s.need.up_to bytes)
  pub has_sha256 : is_some s.sha256 ≡ s.need.sha256
  pub has_sha512 : is_some s.sha512 ≡ s.need.sha512
  pub in_sha256 : IfSome s.sha256 (λ h. Holds256 h (take s.need.up_to bytes))
  pub in_sha512 : IfSome s.sha512 (λ h. Holds512 h (take s.need.up_to bytes))

-- the next piece was taken as a whole, which the reader had and lost, if its bytes are known
pub record TakesMore (old new : Measuring) (had has : Option (List ℕ)) : Type 0 where
  pub piece : List ℕ
  pub consumed : Consumes had has piece
  pub need : new.need ≡ old.need
  pub counted : new.length ≡ old.length + length piece
  pub taken : (bytes : List ℕ) → HasTaken old bytes → HasTaken new (bytes ++ piece)

-- no more bytes are wanted, or the reader has none left, if its bytes are known
abbrev pub IsDone : Measuring → Option (List ℕ) → Type 0
IsDone s has = (s.need.up_to ≤ s.length) ⊎ IsAtEnd has

-- if the bytes that a reader had are known, it lost the first `up_to` of them
abbrev pub LosesStart : ℕ → Option (List ℕ) → Option (List ℕ) → Type 0
LosesStart up_to had has = IfSome had (λ bytes. has ≡ Some (drop up_to bytes))
