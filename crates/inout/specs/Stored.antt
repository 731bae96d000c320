-- What a run stores.
use Rattle.std.specs.Prelude.{ℕ, List, Bool, ◌≡◌, ◌≢◌}

-- what is stored at each other path stays
abbrev pub OthersKept : List ℕ → (List ℕ → List ℕ → Bool) → (List ℕ → List ℕ → Bool) → Type 0
OthersKept path old new =
    (other held : List ℕ) → other ≢ path → new other held ≡ old other held
