-- The folder that has the file of a path.
use Rattle.std.specs.Prelude.{◌≡◌, ◌≢◌, ◌<◌, ◌++◌, ◌⊎◌, ℕ, List, [], ◌∷◌, codes, length, slice_index}

abbrev pub HasNoSlash : List ℕ → Type 0
HasNoSlash text = (i : ℕ) → i < length text → slice_index text i ≢ 47

-- what is before the last slash of a path, and the slash itself if nothing is before it
abbrev pub before_slash : List ℕ → List ℕ
before_slash [] = codes "/"
before_slash (c ∷ dir) = c ∷ dir

-- the folder of a path with no slash is the current one
unfoldable pub IsFolderOf : List ℕ → List ℕ → Type 0
IsFolderOf path folder = (HasNoSlash path × (folder ≡ codes "."))
    ⊎ ((dir : List ℕ) × (base : List ℕ) × (path ≡ dir ++ 47 ∷ base) × HasNoSlash base × (folder ≡ before_slash dir))
