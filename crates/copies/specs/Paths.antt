-- The paths at which a copy may be stored, and the folder for copies.
use Rattle.std.specs.Prelude.{ℕ, Bool, true, not, ◌&&◌, ◌==◌, ◌≡◌, List, [], codes, bytes_eq, take}
use Rattle.std.specs.List.{list_all, slice_split}
use Rattle.std.specs.Str.{str_eq_ignore_ascii_case}

-- a part of a path: not empty, nor `.` or `..`
abbrev pub is_part : List ℕ → Bool
is_part part =
    not (bytes_eq part []) && not (bytes_eq part (codes ".")) && not (bytes_eq part (codes ".."))

-- it begins with `.tufcheck.` in any case, as the path of a temporary file does
abbrev pub is_reserved : List ℕ → Bool
is_reserved path = str_eq_ignore_ascii_case (take 10 path) (codes ".tufcheck.")

-- Each part is one, between the path's slashes, before the first one and after the last one, and
-- the path isn't reserved. So it isn't empty, doesn't begin or end with `/`, and leads to a file
-- below the folder that is no temporary one.
abbrev pub is_below : List ℕ → Bool
is_below path = list_all is_part (slice_split (λ c. c == 47) path) && not (is_reserved path)

-- the same bytes may have been stored for the path
abbrev pub IsSameAt : List ℕ → (List ℕ → List ℕ → Bool) → (List ℕ → List ℕ → Bool) → Type 0
IsSameAt path before after = (bytes : List ℕ) → after path bytes ≡ before path bytes

-- The path of a folder for copies, the paths below it at which no file can be put, and whether a
-- call may fail, whatever the cause but that it is out of memory.
pub record Site : Type 0 where
  pub path : List ℕ
  pub blocks : List ℕ → Bool
  pub fails : Bool
