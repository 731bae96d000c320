-- What holds of the files that are absent.
use Rattle.std.specs.Prelude.{Bool, true, false, not, ◌||◌, ℕ, List, [], ◌∷◌, Option, Some, None, ◌≡◌, IfSome}
use Rattle.std.specs.List.{All, list_all, list_any}
use Rattle.std.specs.Option.{option_map_or}
use Rattle.examine.specs.Checks.{target_names}
use Rattle.deleg.specs.declared.accepted.Search.{Search}
use Rattle.deleg.specs.declared.found.Found.TheVariants.{RoleRefused}
use Rattle.deleg.specs.declared.found.Found.{Found}
use Rattle.needs.specs.Needs.{Course, End, Files, Names, Need, Ready, Request, State, Stopped, course, is_missing, is_none_of, target_of}
use Rattle.needs.specs.declared.need.Place.TheVariants.{Metadata, Targets}
use Rattle.needs.specs.declared.need.Place.{Place}

-- # None of them is there.

-- the names of a folder
abbrev pub names_at : Names → Names → Place → Names
names_at metadata targets Metadata = metadata
names_at metadata targets Targets = targets

-- each is absent in its folder
abbrev pub AreAbsent : Names → Names → List Need → Type 0
AreAbsent metadata targets all =
    All (λ n. names_at metadata targets n.place n.name ≡ false) all

-- # If all of them are optional, the workflow had what it looked up.

abbrev pub are_optional : List Need → Bool
are_optional all = list_all (λ n. n.optional) all

-- the cycle stopped because a file is missing
abbrev pub is_short_end : End → Bool
is_short_end Ready = false
is_short_end (Stopped at fault) = is_missing fault

-- a search was refused because the file of a role is missing
abbrev pub is_short_found : Found → Bool
is_short_found (RoleRefused role fault) = is_missing fault
is_short_found other = false

abbrev pub is_short : Option Search → Bool
is_short s = option_map_or (λ x. is_short_found x.found) s false

-- a file is there under one of these names, or there is no name to look for
abbrev pub is_one_there : Names → List (List ℕ) → Bool
is_one_there there names = is_none_of names || list_any there names

-- the file of the target that the search found is there, or has no name since none of its digests
-- is known
abbrev pub has_file : Names → Bool → Option Search → Bool
has_file there consistent s = option_map_or
    (λ t. is_one_there there (target_names consistent t.path t.hashes.sha256 t.hashes.sha512))
    (target_of s) true

-- no step and no search ended because a file is missing, and each target that was found has its
-- file
pub record HasEnough (there : Names) (c : Course) : Type 0 where
  pub end : is_short_end c.end ≡ false
  pub roles : list_all (λ s. not (is_short s)) c.searches ≡ true
  pub targets : list_all (has_file there c.trusted.root.reading.consistent) c.searches ≡ true

-- # If the missing metadata files are missing for good, so does the course stay.

-- these files and maybe more, but none of those that are absent
pub record IsMore (some : Files) (all : List Need) (more : Files) : Type 0 where
  pub kept : (name : List ℕ) → IfSome (some name) (λ bytes. more name ≡ Some bytes)
  pub absent : All (λ n. n.place ≡ Metadata → more n.name ≡ None) all

-- no other files can change the course
abbrev pub IsSettled : Request → Files → List Need → Type 0
IsSettled r some all = (more : Files) → IsMore some all more → course r more ≡ course r some

-- # What a course began with.

-- the course of the request, from this state and on these files
pub record IsCourseOf (r : Request) (before : State) (c : Course) (files : Files) : Type 0 where
  pub begun : before ≡ r.trusted
  pub same : c ≡ course r files
