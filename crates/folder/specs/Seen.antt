-- What is read of a file, and what is seen of a folder that isn't read completely.
use Rattle.std.specs.List.{list_any}
use Rattle.std.specs.Prelude.{ℕ, List, take, ◌≡◌, Bool, true, Option, Some, is_some, IfSome, option_map, bytes_eq}

-- the first bytes of a file that passes the test: at most `up_to` of them
abbrev pub IsStartOf : (List ℕ → Bool) → ℕ → List ℕ → Type 0
IsStartOf test up_to bytes =
    (whole : List ℕ) × (test whole ≡ true) × (bytes ≡ take up_to whole)

-- what was read of a file: its first `up_to` bytes, or all of them if it has no more
pub record Start : Type 0 where
  pub up_to : ℕ
  pub bytes : List ℕ

-- what was seen of a folder: the names of its files, and what was read of some of them
pub record Seen : Type 0 where
  pub names : List (List ℕ)
  pub read : List ℕ → Option Start

-- the name is in the list
abbrev pub is_named : List (List ℕ) → List ℕ → Bool
is_named names name = list_any (λ other. bytes_eq other name) names

-- names of a list that may be returned, and for some of them the start of a file that may be read
pub record MayBeSeen (lists : List (List ℕ) → Bool) (holds : List ℕ → List ℕ → Bool) (s : Seen)
    : Type 0 where
  pub listed : lists s.names ≡ true
  pub named : (name : List ℕ) → IfSome (s.read name) (λ _. is_named s.names name ≡ true)
  pub held : (name : List ℕ)
      → IfSome (s.read name) (λ r. IsStartOf (holds name) r.up_to r.bytes)

-- Files with these names and no others. Each that was read begins with what was read of it. The
-- rest of their bytes and the other files may be anything.
pub record AreSeen (s : Seen) (files : List ℕ → Option (List ℕ)) : Type 0 where
  pub names : (name : List ℕ) → is_some (files name) ≡ is_named s.names name
  pub bytes : (name : List ℕ)
      → IfSome (s.read name) (λ r. option_map (take r.up_to) (files name) ≡ Some r.bytes)
