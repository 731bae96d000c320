-- The files that a system has open: the one that it locked, and the one that it stored.
use Rattle.std.specs.Prelude.{ℕ, List, Bool, true, false, ◌&&◌, Option, Some, None, bytes_eq, string_bytes, if◌then◌else◌, ◌≡◌}
use Rattle.std.specs.Option.{option_map_or, option_or}
use Rattle.system.specs.declared.held.Held.{Held}
use Rattle.system.specs.declared.held.Written.{Written}

-- the file, if it was opened at the path
abbrev pub at_path : {F : Type 0} → List ℕ → Option (Held F) → Option (Written F)
at_path path None = None
at_path path (Some h) = if bytes_eq (string_bytes h.path) path then Some h.written else None

-- the file that has the path: the one that was stored there last, or the one that was locked there
abbrev pub file_of : {F : Type 0} → Option (Held F) → Option (Held F) → List ℕ → Option (Written F)
file_of locked stored path = option_or (at_path path stored) (at_path path locked)

-- it was locked, and the file itself said so
abbrev pub is_held : {F : Type 0} → (F → Bool) → Written F → Bool
is_held is_locked w = w.is_locked && is_locked w.file

-- the file that has the path is locked
abbrev pub locks : {F : Type 0} → (F → Bool) → Option (Held F) → Option (Held F) → List ℕ → Bool
locks is_locked locked stored path =
    option_map_or (is_held is_locked) (file_of locked stored path) false

-- the file that was stored at the path has the bytes; of other paths nothing is known
abbrev pub keeps : {F : Type 0} → (F → List ℕ → Bool) → Option (Held F) → List ℕ → List ℕ → Bool
keeps has stored path bytes = option_map_or (λ w. has w.file bytes) (at_path path stored) true

-- the file has the bytes, and is locked if it has to be
pub record IsPut {F : Type 0} (has : F → List ℕ → Bool) (is_locked : F → Bool) (must_lock : Bool)
    (bytes : List ℕ) (w : Written F) : Type 0 where
  pub content : has w.file bytes ≡ true
  pub lock : must_lock ≡ true → is_held is_locked w ≡ true
