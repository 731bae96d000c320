-- The course on the metadata files of a folder, of which only some were read (TUF 1.0 sections 5.3
-- to 5.6).
use Rattle.std.specs.BTreeMap.{BTreeMap, get_by_text}
use Rattle.std.specs.Prelude.{◌≡◌, ℕ, List, All, Bool, true, false, ◌&&◌, Option, Some, None, IfSome, is_some, String, Vec, bytes_eq, option_map, map, string_bytes}
use Rattle.std.specs.declared.alloc.Global.{Global}
use Rattle.examine.specs.Checks.{file_in}
use Rattle.cycle.specs.Looked.{is_metadata_name, most_looked_at}
use Rattle.cycle.specs.Workflow.{Course, Files, Request, State, course, request}
use Rattle.folder.specs.Folders.{Giving}
use Rattle.folder.specs.Seen.{AreSeen, IsStartOf, MayBeSeen, Seen, is_named}
use Rattle.lookups.specs.declared.asked.Asked.{Asked}
use Rattle.lookups.specs.declared.metadata.Metadata.{Metadata}
use Rattle.needs.specs.Needs.{is_in, missing_metadata}
use Rattle.needs.specs.declared.need.Need.{Need}

-- # What was read of a folder.

-- the folder lists a metadata file of that name
abbrev pub is_listed : Metadata → List ℕ → Bool
is_listed m name = is_in m.listed name && is_metadata_name name

-- a metadata file of that name was read
abbrev pub is_read : Metadata → List ℕ → Bool
is_read m name = is_in m.repo.metadata name

-- it is a metadata file that the folder lists, and these are the first bytes of one that it may
-- hold
pub record IsReadOf (g : Giving) (m : Metadata) (name bytes : List ℕ) : Type 0 where
  pub listed : is_listed m name ≡ true
  pub start : IsStartOf (g.holds name) most_looked_at bytes

-- a list of the folder, and the metadata files of it that were read
pub record IsPart (g : Giving) (m : Metadata) : Type 0 where
  pub names : g.lists (map string_bytes m.names.items) ≡ true
  pub listed : (name : List ℕ)
      → is_in m.listed name ≡ is_named (map string_bytes m.names.items) name
  pub read : (name : List ℕ)
      → IfSome (get_by_text m.repo.metadata name) (λ v. IsReadOf g m name v.items)

-- the list is the same, and so is what was read, with which more may have been read
pub record Grows (old new : Metadata) : Type 0 where
  pub names : new.names ≡ old.names
  pub listed : new.listed ≡ old.listed
  pub read : (name : List ℕ) → IfSome (get_by_text old.repo.metadata name)
      (λ v. get_by_text new.repo.metadata name ≡ Some v)

-- # The course on it.

-- what is requested from a trusted state
abbrev pub request_of : State → Asked → Request
request_of trusted asked = request trusted asked.moment asked.wanted.now asked.limits.roles

-- the course on the metadata files that were read; of those that it looked up and found absent, the
-- folder lists none
pub record IsSettledOn (r : Request) (m : Metadata) (c : Course) : Type 0 where
  pub same : c ≡ course r (file_in m.repo.metadata)
  pub absent : All (λ n. is_listed m n.name ≡ false)
      (missing_metadata r.trusted.root.reading c (is_in m.repo.metadata))

-- # What it says of all files of the folder.

-- what was read of the files
abbrev pub files_read : Seen → Files
files_read s name = option_map (λ r. r.bytes) (s.read name)

-- names that the folder lists, and the first bytes of some of its metadata files, up to one byte
-- more than the workflow looks at
pub record IsLookedUp (g : Giving) (s : Seen) : Type 0 where
  pub may_be_seen : MayBeSeen g.lists g.holds s
  pub starts : (name : List ℕ) → IfSome (s.read name)
      (λ r. (is_metadata_name name ≡ true) × (r.up_to ≡ most_looked_at))

-- the metadata files that the course looks up in these and finds absent
abbrev pub missing_in : Request → Files → List Need
missing_in r files =
    missing_metadata r.trusted.root.reading (course r files) (λ name. is_some (files name))

-- the name is that of a metadata file, and in the list
abbrev pub is_metadata_in : List (List ℕ) → List ℕ → Bool
is_metadata_in names name = is_named names name && is_metadata_name name

-- The course on what was read, which is that on all files that are seen so, whatever the others
-- have. Of the metadata files that it looked up and found absent, the folder lists none.
pub record IsCourseOn (g : Giving) (r : Request) (c : Course) : Type 0 where
  pub seen : Seen
  pub looked_up : IsLookedUp g seen
  pub on_read : c ≡ course r (files_read seen)
  pub on_all : (files : Files) → AreSeen seen files → c ≡ course r files
  pub absent : All (λ n. is_metadata_in seen.names n.name ≡ false)
      (missing_in r (files_read seen))

-- # For the contracts of private functions.

-- the map has the names of the list
abbrev pub HasNames : Metadata → Type 0
HasNames m = (name : List ℕ) → is_in m.listed name ≡ is_named (map string_bytes m.names.items) name

-- nothing was read
abbrev pub HasNone : Metadata → Type 0
HasNone m = (name : List ℕ) → get_by_text m.repo.metadata name ≡ None

-- if the folder lists a metadata file of that name, it was read
abbrev pub IsDone : Metadata → List ℕ → Type 0
IsDone m name = is_listed m name ≡ true → is_read m name ≡ true

-- all metadata files that the folder lists were read
abbrev pub IsWhole : Metadata → Type 0
IsWhole m = (name : List ℕ) → IsDone m name

-- nothing was read, since each of these files was, or isn't listed
pub record HasNoneOf (all : List Need) (old new : Metadata) : Type 0 where
  pub same : new ≡ old
  pub done : All (λ n. IsDone old n.name) all

-- the name has these bytes, and every other name has what it had
pub record Puts (name : List ℕ) (bytes : Vec ℕ Global)
    (old new : BTreeMap (String Global) (Vec ℕ Global)) : Type 0 where
  pub there : get_by_text new name ≡ Some bytes
  pub others : (other : List ℕ)
      → bytes_eq name other ≡ false → get_by_text new other ≡ get_by_text old other
