-- The paths that a list names.
use Rattle.std.specs.Prelude.{ℕ, Bool, not, ◌&&◌, ◌==◌, length, if◌then◌else◌, List, [], ◌∷◌, Option, Some, None}
use Rattle.std.specs.List.{list_all}
use Rattle.std.specs.Str.{is_utf8}

-- the byte before those of the first part
abbrev pub before_first : ℕ → List (List ℕ) → List (List ℕ)
before_first byte [] = (byte ∷ []) ∷ []
before_first byte (part ∷ more) = (byte ∷ part) ∷ more

-- what is before each mark, and what is after the last one, unless that is nothing
unfoldable pub parts : ℕ → List ℕ → List (List ℕ)
parts mark [] = []
parts mark (byte ∷ more) =
    if byte == mark then [] ∷ parts mark more else before_first byte (parts mark more)

-- a path has at least one byte, and is UTF-8
abbrev pub is_path : List ℕ → Bool
is_path part = not (length part == 0) && is_utf8 part

-- the paths of a list, or none of them if one is no path
unfoldable pub paths_of : ℕ → List ℕ → Option (List (List ℕ))
paths_of mark bytes =
    if list_all is_path (parts mark bytes) then Some (parts mark bytes) else None
