-- How much is read of a file.
use Rattle.std.specs.Prelude.{ℕ, List, Bool, true, ◌≡◌, ◌<◌, length}

-- the file may have more bytes than these
abbrev pub IsLonger : ℕ → (List ℕ → Bool) → Type 0
IsLonger most gives = (bytes : List ℕ) × ((gives bytes ≡ true) × (most < length bytes))
