-- What a run reads, stores and prints.
use Rattle.std.specs.Prelude.{ℕ, List, Bool, Option, ◌≡◌}
use Rattle.folder.specs.Folders.{Giving}
use Rattle.system.specs.Blocked.{Obstacles}
pub use Rattle.inout.specs.Stored.{OthersKept}

-- the two folders of a repository
pub record Mirror : Type 0 where
  pub metadata : Giving
  pub targets : Giving

-- Which bytes the file of a path may give, and which while it is locked; and which file may not be
-- read. Which files are locked against other runs. Which second of Unix time the clock may show, or
-- nothing. With which bytes the file of a path was stored, and what may keep a file from being put
-- there. The folders, in order, and what was printed, where that is known.
pub record World : Type 0 where
  pub gives : List ℕ → List ℕ → Bool
  pub gives_locked : List ℕ → List ℕ → Bool
  pub refuses : List ℕ → Bool
  pub locks : List ℕ → Bool
  pub shows : Option ℕ → Bool
  pub keeps : List ℕ → List ℕ → Bool
  pub obstacles : Obstacles
  pub mirrors : List Mirror
  pub printed : Option (List ℕ)

-- nothing was stored or printed
abbrev pub IsUntouched : World → World → Type 0
IsUntouched old new = (new.keeps ≡ old.keeps) × (new.printed ≡ old.printed)
