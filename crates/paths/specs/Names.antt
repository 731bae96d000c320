-- The paths that the names of target files stand for (TUF 1.0 section 5.7).
use Rattle.std.specs.Cmp.Lexicographic.{slice_cmp}
use Rattle.std.specs.List.{Contains, after_first, before_first, list_all, list_any}
use Rattle.std.specs.List.Sorted.{IsStrictlySortedBy}
use Rattle.std.specs.Ordering.{nat_cmp}
use Rattle.std.specs.Prelude.{ℕ, Bool, ◌&&◌, ◌||◌, ◌==◌, length, if◌then◌else◌, List, [], ◌∷◌, map, Option, IfSome, ◌≡◌}
use Rattle.hex.specs.Hex.{IsBytes}
use Rattle.meta.specs.Content.{has_slash, target_names}
use Rattle.meta.specs.Patterns.{is_lower_digit}

abbrev pub is_dot : ℕ → Bool
is_dot c = c == 46

-- a sha256 or a sha512 digest in lower-case hexadecimal
unfoldable pub is_hash : List ℕ → Bool
is_hash digits = (length digits == 64 || length digits == 128) && list_all is_lower_digit digits

-- without the digest before the first `.`, if there is one
abbrev pub unhashed : List ℕ → List ℕ
unhashed name =
    if list_any is_dot name && is_hash (before_first is_dot name) then after_first is_dot name
    else name

-- the same of what follows the last `/`
abbrev pub path_in : List ℕ → List ℕ
path_in [] = []
path_in (c ∷ name) =
    if has_slash (c ∷ name) then c ∷ path_in name else unhashed (c ∷ name)

-- under consistent names without `HASH.`, else the name itself
abbrev pub path_of : Bool → List ℕ → List ℕ
path_of consistent name = if consistent then path_in name else name

-- these paths and no others, each once, in byte order
pub record AreOnceInOrder (paths sorted : List (List ℕ)) : Type 0 where
  pub ascending : IsStrictlySortedBy (slice_cmp nat_cmp) sorted
  pub each_kept : (path : List ℕ) → Contains paths path → Contains sorted path
  pub none_added : (path : List ℕ) → Contains sorted path → Contains paths path

-- the paths of these names
abbrev pub ArePathsOf : Bool → List (List ℕ) → List (List ℕ) → Type 0
ArePathsOf consistent names paths = AreOnceInOrder (map (path_of consistent) names) paths

-- a digest of `n` bytes
abbrev pub IsDigest : ℕ → List ℕ → Type 0
IsDigest n digest = IsBytes digest × (length digest ≡ n)

-- each target whose file has one of the target's names has its path among these
abbrev pub HasEachTarget : Bool → List (List ℕ) → List (List ℕ) → Type 0
HasEachTarget consistent names paths =
    (path name : List ℕ) (sha256 sha512 : Option (List ℕ))
    → IfSome sha256 (IsDigest 32) → IfSome sha512 (IsDigest 64)
    → Contains (target_names consistent path sha256 sha512) name
    → Contains names name → Contains paths path
