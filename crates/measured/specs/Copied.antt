-- Copies of the files that searches found.
use Rattle.std.specs.Prelude.{ℕ, List, Bool, true, ◌≡◌, Option, Some, None, Ok, IfSome, IsSomeAnd, take}
use Rattle.std.specs.List.{AllZip}
use Rattle.deleg.specs.declared.accepted.Search.{Search}
use Rattle.meta.specs.Content.{content}
use Rattle.cycle.specs.Workflow.{Target, target_of}
use Rattle.folder.specs.Measures.{IsMeasureOf, measure_of}
use Rattle.folder.specs.declared.measure.Measure.{Measure}
use Rattle.folder.specs.declared.measure.Need.{Need}
use Rattle.measured.specs.declared.copying.Made.{Made}

-- the bytes have the length and the digests of the target (TUF 1.0 section 5.7)
abbrev pub IsContentOf : Target → List ℕ → Type 0
IsContentOf t bytes = content None (Some t.length) (Some t.hashes) bytes ≡ Ok tt

-- bytes of the target that may have been taken
pub record HasContentOf (took : List ℕ → Bool) (t : Target) : Type 0 where
  pub bytes : List ℕ
  pub taken : took bytes ≡ true
  pub content : IsContentOf t bytes

-- if there is a copy, then the search found a target, and the copy has bytes of it
abbrev pub IsCopyFor : {K : Type 0} → (K → List ℕ → Bool) → Option K → Option Search → Type 0
IsCopyFor took copy s = IfSome copy (λ file. IsSomeAnd (target_of s) (HasContentOf (took file)))

-- so is each copy, by position
abbrev pub AreCopiesFor : {K : Type 0} → (K → List ℕ → Bool) → List (Option K)
    → List (Option Search) → Type 0
AreCopiesFor took copies searches = AllZip (IsCopyFor took) copies searches

-- # While a file is copied.

-- the measure is that of bytes which pass the test, and all of them that were measured were taken
pub record IsMeasuredInto (need : Need) (test : List ℕ → Bool) (took : List ℕ → Bool)
    (m : Measure) : Type 0 where
  pub bytes : List ℕ
  pub held : test bytes ≡ true
  pub measure : m ≡ measure_of need bytes
  pub taken : took (take need.up_to bytes) ≡ true

-- A file was measured, of bytes that pass the test. If there is a copy, it has bytes of the target.
pub record IsMade {K : Type 0} (wrote : K → List ℕ → Bool) (test : List ℕ → Bool) (need : Need)
    (t : Target) (m : Made K) : Type 0 where
  pub measured : IsMeasureOf need test m.measure
  pub copy : IfSome m.copy (λ file. HasContentOf (wrote file) t)
