-- An outcome and a course as rows of numbers, whose names are in one list of bytes.
use Rattle.std.specs.Prelude.{ℕ, ◌+◌, Bool, List, [], ◌∷◌, length, flat_map, replicate, drop, Option, None, Some, option_and_then, is_some, ◌++◌}
use Rattle.std.specs.Option.{option_map_or, unwrap_or}
use Rattle.meta.specs.declared.fault.Fault.{Fault}
use Rattle.meta.specs.declared.fault.Fault.TheVariants as fault
use Rattle.rolechain.specs.declared.end.Step.TheVariants as step
use Rattle.rolechain.specs.declared.end.Step.{Step}
use Rattle.deleg.specs.declared.found.Found.{Found}
use Rattle.deleg.specs.declared.found.Found.TheVariants as found
use Rattle.deleg.specs.declared.accepted.Search.{Search}
use Rattle.cycle.specs.Workflow.{End, Ready, Stopped, Accepted, target_of}
use Rattle.cycle.specs.declared.verdict.Verdict.{Verdict}
use Rattle.cycle.specs.declared.verdict.Verdict.TheVariants.{Good, NotFound, LimitReached, RoleRefused, FileRefused, NotSearched}
use Rattle.meta.specs.Content.{target_names}
use Rattle.needs.specs.declared.need.Need.{Need}
use Rattle.needs.specs.declared.need.Place.TheVariants as place
use Rattle.needs.specs.declared.need.Place.{Place}
use Rattle.embed.specs.Jobs.{Given, Whole, Measured}
use Rattle.embed.specs.declared.rows.ListedRow.{ListedRow}
use Rattle.embed.specs.declared.rows.NeedRow.{NeedRow}
use Rattle.embed.specs.declared.rows.RoleRow.{RoleRow}
use Rattle.embed.specs.declared.rows.VerdictRow.{VerdictRow}

-- # Numbers of faults and ends. No number of one kind is one of another kind, or a result.

abbrev pub fault_number : Fault → ℕ
fault_number fault.NotListed = 65
fault_number fault.Missing = 66
fault_number fault.TooLong = 67
fault_number fault.LengthWrong = 68
fault_number fault.HashWrong = 69
fault_number fault.NoKnownHash = 70
fault_number fault.Malformed = 71
fault_number fault.Unsigned = 72
fault_number fault.VersionWrong = 73
fault_number fault.Rollback = 74
fault_number fault.Expired = 75

abbrev pub step_number : Step → ℕ
step_number step.Root = 34
step_number step.Timestamp = 35
step_number step.Snapshot = 36
step_number step.Targets = 37

-- 33 is ready, else the step that stopped the cycle
abbrev pub end_number : End → ℕ
end_number Ready = 33
end_number (Stopped step fault) = step_number step

-- the fault that stopped the cycle, or 0
abbrev pub end_fault : End → ℕ
end_fault Ready = 0
end_fault (Stopped step fault) = fault_number fault

-- # Verdicts.

abbrev pub kind_number : Verdict → ℕ
kind_number (Good role length) = 17
kind_number NotFound = 18
kind_number LimitReached = 19
kind_number (RoleRefused role fault) = 20
kind_number (FileRefused fault) = 21
kind_number NotSearched = 22

-- the fault, if there is one, or 0
abbrev pub verdict_fault : Verdict → ℕ
verdict_fault (RoleRefused role fault) = fault_number fault
verdict_fault (FileRefused fault) = fault_number fault
verdict_fault _ = 0

-- the length of an accepted file, or 0
abbrev pub verdict_length : Verdict → ℕ
verdict_length (Good role length) = length
verdict_length _ = 0

-- the role that lists the accepted file, or whose own file is refused; else no name
abbrev pub verdict_role : Verdict → List ℕ
verdict_role (Good role length) = role
verdict_role (RoleRefused role fault) = role
verdict_role _ = []

-- the list of the file: 81 for the targets, 82 for the digests, or 0 if there is no file
abbrev pub source_number : Option Given → ℕ
source_number None = 0
source_number (Some (Whole at bytes)) = 81
source_number (Some (Measured at m)) = 82

-- the file's index in its list, or 0
abbrev pub file_index : Option Given → ℕ
file_index None = 0
file_index (Some (Whole at bytes)) = at
file_index (Some (Measured at m)) = at

-- a verdict whose role's name begins at `at` in the names, by what is given of the target's file
abbrev pub verdict_row : ℕ → Verdict → Option Given → VerdictRow
verdict_row at v given = record {
  kind = kind_number v;
  fault = verdict_fault v;
  length = verdict_length v;
  role_at = at;
  role_len = length (verdict_role v);
  file_at = file_index given;
  source = source_number given;
  reserved = replicate 5 0;
}

abbrev pub first_or_none : List (Option Given) → Option Given
first_or_none [] = None
first_or_none (g ∷ more) = g

-- one verdict after the other, and so the files and the names
abbrev pub verdict_rows : ℕ → List Verdict → List (Option Given) → List VerdictRow
verdict_rows at [] files = []
verdict_rows at (v ∷ vs) files =
    verdict_row at v (first_or_none files)
    ∷ verdict_rows (at + length (verdict_role v)) vs (drop 1 files)

abbrev pub verdict_names : List Verdict → List ℕ
verdict_names vs = flat_map verdict_role vs

-- # Accepted roles.

abbrev pub role_row : ℕ → Accepted → RoleRow
role_row at a = record {
  version = a.version;
  name_at = at;
  name_len = length a.role;
  reserved = replicate 2 0;
}

abbrev pub role_rows : ℕ → List Accepted → List RoleRow
role_rows at [] = []
role_rows at (a ∷ more) = role_row at a ∷ role_rows (at + length a.role) more

abbrev pub role_names : List Accepted → List ℕ
role_names all = flat_map (λ a. a.role) all

-- # Searches, before any target file is read.

abbrev pub found_kind : Found → ℕ
found_kind (found.Listed role t visited) = 23
found_kind found.NotFound = 18
found_kind found.LimitReached = 19
found_kind (found.RoleRefused role fault) = 20

abbrev pub search_kind : Option Search → ℕ
search_kind s = option_map_or (λ s. found_kind s.found) s 22

abbrev pub found_fault : Found → ℕ
found_fault (found.RoleRefused role fault) = fault_number fault
found_fault _ = 0

-- the fault, if there is one, or 0
abbrev pub search_fault : Option Search → ℕ
search_fault s = option_map_or (λ s. found_fault s.found) s 0

abbrev pub found_role : Found → List ℕ
found_role (found.Listed role t visited) = role
found_role (found.RoleRefused role fault) = role
found_role _ = []

-- the role that lists the target, or whose file is refused; else no name
abbrev pub search_role : Option Search → List ℕ
search_role s = option_map_or (λ s. found_role s.found) s []

abbrev pub listed_sha256 : Option Search → Option (List ℕ)
listed_sha256 s = option_and_then (λ t. t.hashes.sha256) (target_of s)

abbrev pub listed_sha512 : Option Search → Option (List ℕ)
listed_sha512 s = option_and_then (λ t. t.hashes.sha512) (target_of s)

-- the first of the names, or no name
abbrev pub first_name : List (List ℕ) → List ℕ
first_name [] = []
first_name (name ∷ more) = name

-- the name to fetch of the target that the search found, or no name
abbrev pub listed_name : Bool → Option Search → List ℕ
listed_name consistent s =
    option_map_or
    (λ t. first_name (target_names consistent t.path t.hashes.sha256 t.hashes.sha512))
    (target_of s) []

-- a search whose role's name, and the name to fetch, are there in the names; a digest that isn't
-- listed is zeros
abbrev pub listed_row : ℕ → ℕ → ℕ → Option Search → ListedRow
listed_row at name_at name_len s = record {
  kind = search_kind s;
  fault = search_fault s;
  length = option_map_or (λ t. t.length) (target_of s) 0;
  role_at = at;
  role_len = length (search_role s);
  name_at = name_at;
  name_len = name_len;
  has_sha256 = is_some (listed_sha256 s);
  has_sha512 = is_some (listed_sha512 s);
  sha256 = unwrap_or (listed_sha256 s) (replicate 32 0);
  sha512 = unwrap_or (listed_sha512 s) (replicate 64 0);
  reserved = replicate 30 0;
}

-- the names of a search: of its role, and to fetch
abbrev pub search_names : Bool → Option Search → List ℕ
search_names consistent s = search_role s ++ listed_name consistent s

abbrev pub listed_rows : Bool → ℕ → List (Option Search) → List ListedRow
listed_rows consistent at [] = []
listed_rows consistent at (s ∷ more) =
    listed_row at (at + length (search_role s)) (length (listed_name consistent s)) s
    ∷ listed_rows consistent (at + length (search_names consistent s)) more

abbrev pub listed_names : Bool → List (Option Search) → List ℕ
listed_names consistent all = flat_map (search_names consistent) all

-- # Files to fetch.

abbrev pub place_number : Place → ℕ
place_number place.Metadata = 49
place_number place.Targets = 50

-- a file whose name begins at `at` in the names
abbrev pub need_row : ℕ → Need → NeedRow
need_row at n = record {
  place = place_number n.place;
  optional = n.optional;
  most = n.most;
  name_at = at;
  name_len = length n.name;
  reserved = replicate 2 0;
}

abbrev pub need_rows : ℕ → List Need → List NeedRow
need_rows at [] = []
need_rows at (n ∷ more) = need_row at n ∷ need_rows (at + length n.name) more

abbrev pub need_names : List Need → List ℕ
need_names all = flat_map (λ n. n.name) all
