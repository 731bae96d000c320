-- A file that is passed on while it is measured.
use Rattle.std.specs.Prelude.{ℕ, Bool, true, None, List, ◌++◌, ◌≡◌, take}
use Rattle.folder.specs.Measures.{TakesMore, measure_of}
use Rattle.folder.specs.declared.measure.Measure.{Measure}
use Rattle.folder.specs.declared.measure.Measuring.{Measuring}
use Rattle.folder.specs.declared.measure.Need.{Need}

-- what may have been taken before may have been taken with these bytes after it
abbrev pub IsTaken : List ℕ → (List ℕ → Bool) → (List ℕ → Bool) → Type 0
IsTaken piece before after =
    (bytes : List ℕ) → before bytes ≡ true → after (bytes ++ piece) ≡ true

-- the measure is that of bytes which pass the test, and all of them that were measured were taken
pub record IsPassedOn (need : Need) (test : List ℕ → Bool) (before after : List ℕ → Bool)
    (m : Measure) : Type 0 where
  pub bytes : List ℕ
  pub held : test bytes ≡ true
  pub measure : m ≡ measure_of need bytes
  pub taken : IsTaken (take need.up_to bytes) before after

-- the next piece was measured as a whole, and was taken
pub record PassesOn (old new : Measuring) (before after : List ℕ → Bool) : Type 0 where
  pub more : TakesMore old new None None
  pub taken : IsTaken more.piece before after
