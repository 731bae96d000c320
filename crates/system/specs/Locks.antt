-- Which files stay locked.
use Rattle.std.specs.Prelude.{ℕ, List, Bool, true, ◌≡◌}

-- what is locked by `old` is locked by `new`, too
abbrev pub StaysLocked : (List ℕ → Bool) → (List ℕ → Bool) → Type 0
StaysLocked old new = (path : List ℕ) → old path ≡ true → new path ≡ true
