-- What is known of the files of a folder, each of which is measured at most once.
use Rattle.std.specs.Prelude.{ℕ, ◌+◌, ◌==◌, ⊤, Result, List, Bool, true, false, ◌&&◌, ◌||◌, not, max, nat_lt, if◌then◌else◌, ◌≡◌, Option, None, Some, IfSome, is_some, find, option_map, bytes_eq, string_bytes, All}
use Rattle.std.specs.BTreeMap.{get_by_text}
use Rattle.std.specs.Option.{option_map_or}
use Rattle.cjson.specs.Document.{◌>>=◌, refuse_if}
use Rattle.meta.specs.Content.{has_no_known_hash}
use Rattle.meta.specs.declared.hashes.Hashes.{Hashes}
use Rattle.meta.specs.declared.fault.Fault.TheVariants.{HashWrong, LengthWrong, NoKnownHash}
use Rattle.examine.specs.Checks.{Fault, target_names}
use Rattle.deleg.specs.declared.accepted.Search.{Search}
use Rattle.cycle.specs.Workflow.{Checks, Files, Target, target_checked, target_of}
use Rattle.folder.specs.Seen.{is_named}
use Rattle.folder.specs.Measures.{IsMeasureOf, IsMeasuredIn, measure_of}
use Rattle.folder.specs.declared.job.Done.{Done}
use Rattle.folder.specs.declared.measure.Measure.{Measure}
use Rattle.folder.specs.declared.measure.Need.{Need}
use Rattle.measured.specs.declared.known.Known.{Known}
use Rattle.measured.specs.declared.known.There.{There}
use Rattle.measured.specs.declared.known.Wanted.{Wanted}

-- # What is needed of a file.

-- enough to check the target's length and digests
abbrev pub covers : Need → Target → Bool
covers need t =
    nat_lt t.length need.up_to && (not (is_some t.hashes.sha256) || need.sha256)
    && (not (is_some t.hashes.sha512) || need.sha512)

-- also enough for one more target
abbrev pub widened : Need → Target → Need
widened need t = record {
  up_to = max need.up_to (t.length + 1);
  sha256 = need.sha256 || is_some t.hashes.sha256;
  sha512 = need.sha512 || is_some t.hashes.sha512;
}

abbrev pub nothing : Need
nothing = record { up_to = 0; sha256 = false; sha512 = false }

-- # A measure beside what is listed (TUF 1.0 section 5.7).

-- a digest is listed, and the measure has another one or none
abbrev pub differs_from : Option (List ℕ) → Option (List ℕ) → Bool
differs_from None found = false
differs_from (Some given) None = true
differs_from (Some given) (Some found) = not (bytes_eq given found)

abbrev pub has_wrong_hash : Hashes → Measure → Bool
has_wrong_hash h m = differs_from h.sha256 m.sha256 || differs_from h.sha512 m.sha512

-- the target's length and digests are those of the measure
abbrev pub measured_content : Target → Measure → Result ⊤ Fault
measured_content t m = do
  sized ← refuse_if (not (t.length == m.length)) LengthWrong
  hashed ← refuse_if (has_wrong_hash t.hashes m) HashWrong
  refuse_if (has_no_known_hash t.hashes) NoKnownHash

-- the measure with those of its digests that the target lists
abbrev pub listed_of : Target → Measure → Measure
listed_of t m = record {
  length = m.length;
  sha256 = if is_some t.hashes.sha256 then m.sha256 else None;
  sha512 = if is_some t.hashes.sha512 then m.sha512 else None;
}

-- # The names, and the measures so far.

-- the first of the target's names that is there
abbrev pub place : Known → Bool → Target → Option (List ℕ)
place k consistent t =
    find (λ name. is_some (get_by_text k.files name))
    (target_names consistent t.path t.hashes.sha256 t.hashes.sha512)

-- the file was measured, as far as the target needs it
abbrev pub is_measured : Option Wanted → Target → Bool
is_measured None t = false
is_measured (Some w) t = is_some w.measure && covers w.need t

-- the target's file isn't there, or was measured as far as it is needed
abbrev pub knows : Known → Bool → Target → Bool
knows k consistent t =
    option_map_or
    (λ name. option_map_or (λ o. is_measured o t) (get_by_text k.files name) false)
    (place k consistent t) true

-- so is that of the target that the search found
abbrev pub IsCovered : Known → Bool → Option Search → Type 0
IsCovered k consistent s = IfSome (target_of s) (λ t. knows k consistent t ≡ true)

-- files with these names and no others, among which each that was measured has that measure
pub record MayBe (k : Known) (files : Files) : Type 0 where
  pub names : (name : List ℕ) → is_some (files name) ≡ is_some (get_by_text k.files name)
  pub measures : (name : List ℕ) → IfSome (get_by_text k.files name) (λ o. IfSome o
      (λ w. IfSome w.measure (λ m. option_map (measure_of w.need) (files name) ≡ Some m)))

-- what the checks come to, if the files are such files
pub record MayGive (k : Known) (checks : Checks) : Type 0 where
  pub files : Files
  pub may_be : MayBe k files
  pub are : checks ≡ target_checked files

-- a file that is wanted is one that was found, and its measure is of bytes that it may have
pub record IsWanted (found : Bool) (holds : List ℕ → Bool) (w : Wanted) : Type 0 where
  pub is_found : found ≡ true
  pub measure : IfSome w.measure (IsMeasureOf w.need holds)

-- the names of a list, and what is known of those that are wanted
pub record IsKnown (names : List (List ℕ)) (holds : List ℕ → List ℕ → Bool)
    (found : List ℕ → Bool) (k : Known) : Type 0 where
  pub named : (name : List ℕ) → is_some (get_by_text k.files name) ≡ is_named names name
  pub wanted : (name : List ℕ) → IfSome (get_by_text k.files name)
      (λ o. IfSome o (IsWanted (found name) (holds name)))

-- measures of files, each of bytes that may be read for its name
pub record AreDone (holds : List ℕ → List ℕ → Bool) (done : List Done) : Type 0 where
  pub each : All (IsMeasuredIn holds) done

-- what was so known stays so
abbrev pub StaysKnown : List (List ℕ) → (List ℕ → List ℕ → Bool) → (List ℕ → Bool)
    → Known → Known → Type 0
StaysKnown names holds found old new = IsKnown names holds found old → IsKnown names holds found new

-- the name has the value, and every other name has what it had
pub record Puts (name : List ℕ) (value : Option Wanted) (old new : Known) : Type 0 where
  pub there : get_by_text new.files name ≡ Some value
  pub others : (other : List ℕ)
      → bytes_eq name other ≡ false → get_by_text new.files other ≡ get_by_text old.files other

-- it has what is known of the file of its name
abbrev pub IsThere : Known → There → Type 0
IsThere k t = get_by_text k.files (string_bytes t.name) ≡ Some t.wanted

-- each name has what it had
abbrev pub IsSame : Known → Known → Type 0
IsSame old new = (name : List ℕ) → get_by_text new.files name ≡ get_by_text old.files name

-- the same names, of each of which no less is known
pub record Grows (old new : Known) : Type 0 where
  pub names : (name : List ℕ)
      → is_some (get_by_text new.files name) ≡ is_some (get_by_text old.files name)
  pub measures : (name : List ℕ) (t : Target)
      → option_map_or (λ o. is_measured o t) (get_by_text old.files name) false ≡ true
      → option_map_or (λ o. is_measured o t) (get_by_text new.files name) false ≡ true
