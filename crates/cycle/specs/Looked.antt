-- The part of the metadata files that the workflow looks at.
use Rattle.std.specs.Prelude.{◌≡◌, ℕ, ◌+◌, eqb, if◌then◌else◌, List, take, codes, Bool, None, option_map}
use Rattle.std.specs.List.{ends_with}
use Rattle.meta.specs.Content.{targets_limit}
use Rattle.examine.specs.Checks.{Files}

-- the name ends in `.json`
abbrev pub is_metadata_name : List ℕ → Bool
is_metadata_name name = ends_with eqb name (codes ".json")

-- maximum number of bytes of a file: the greatest limit of any kind, and one byte
abbrev pub most_looked_at : ℕ
most_looked_at = targets_limit + 1

-- the files whose names end in `.json`, each as its first bytes, and no others
abbrev pub looked_at : Files → Files
looked_at files name =
    if is_metadata_name name then option_map (take most_looked_at) (files name) else None

-- the same of both is looked at, so both have one outcome
abbrev pub AreAlike : Files → Files → Type 0
AreAlike files others = (name : List ℕ) → looked_at files name ≡ looked_at others name
