-- A course that is ended by the target files of a folder.
use Rattle.std.specs.BTreeMap.{get_by_text}
use Rattle.std.specs.Prelude.{ℕ, List, Bool, true, false, ◌≡◌, if◌then◌else◌, All, IfSome, IsSomeAnd, Option, None, Some, bytes_eq, find, is_some, length, option_and_then, option_map, string_bytes}
use Rattle.std.specs.List.{list_any}
use Rattle.std.specs.Option.{option_map_or}
use Rattle.sha2.specs.Sha256.{sha256}
use Rattle.sha2.specs.Sha512.{sha512}
use Rattle.examine.specs.Checks.{target_names}
use Rattle.deleg.specs.declared.accepted.Search.{Search}
use Rattle.cycle.specs.Workflow.{Course, Files, Outcome, Target, closed_course, target_of}
use Rattle.folder.specs.Seen.{AreSeen, MayBeSeen, Seen, Start, is_named}
use Rattle.folder.specs.declared.measure.Measure.{Measure}
use Rattle.folder.specs.declared.measure.Need.{Need}
use Rattle.measured.specs.Known.{IsCovered}
use Rattle.measured.specs.declared.known.Found.{Found}
use Rattle.measured.specs.declared.known.Known.{Known}

-- the name is one of those under which the target's file may lie (TUF 1.0 section 5.7)
abbrev pub is_name_of : Bool → List ℕ → Target → Bool
is_name_of consistent name t =
    list_any (λ other. bytes_eq other name)
    (target_names consistent t.path t.hashes.sha256 t.hashes.sha512)

-- the name is one of the target that the search found
abbrev pub is_found_by : Bool → List ℕ → Option Search → Bool
is_found_by consistent name s = option_map_or (is_name_of consistent name) (target_of s) false

-- all names of the target that the search found are among these
abbrev pub HasNamesOf : Bool → Option Search → (List ℕ → Bool) → Type 0
HasNamesOf consistent s names =
    (name : List ℕ) → is_found_by consistent name s ≡ true → names name ≡ true

-- the name is one of a target that one of the searches found
abbrev pub is_found : Bool → List (Option Search) → List ℕ → Bool
is_found consistent all name = list_any (is_found_by consistent name) all

-- ---- what is known of the files

-- the length of these bytes, with these of their digests
abbrev pub measure_with : Bool → Bool → List ℕ → Measure
measure_with has_sha256 has_sha512 bytes = record {
  length = length bytes;
  sha256 = if has_sha256 then Some (sha256 bytes) else None;
  sha512 = if has_sha512 then Some (sha512 bytes) else None;
}

-- the file was read as far as was needed, and this is the measure of what was read
abbrev pub IsOfStart : Need → Measure → Option Start → Type 0
IsOfStart need m read =
    IsSomeAnd read
    (λ r. (r.up_to ≡ need.up_to) × (m ≡ measure_with need.sha256 need.sha512 r.bytes))

-- what is known of the files is of those that were seen
pub record IsKnownOf (s : Seen) (k : Known) : Type 0 where
  pub names : (name : List ℕ) → is_some (get_by_text k.files name) ≡ is_named s.names name
  pub measures : (name : List ℕ) → IfSome (get_by_text k.files name) (λ o. IfSome o
      (λ w. IfSome w.measure (λ m. IsOfStart w.need m (s.read name))))

-- Files of the folder were seen, and none was read but of targets that searches found. These are
-- known, as far as the course needs them. There are such files.
pub record IsMeasured (lists : List (List ℕ) → Bool) (holds : List ℕ → List ℕ → Bool)
    (course : Course) (k : Known) : Type 0 where
  pub seen : Seen
  pub may_be_seen : MayBeSeen lists holds seen
  pub found : (name : List ℕ) → IfSome (seen.read name)
      (λ _. is_found course.trusted.root.reading.consistent course.searches name ≡ true)
  pub known : IsKnownOf seen k
  pub covered : All (IsCovered k course.trusted.root.reading.consistent) course.searches
  pub files : Files
  pub are_seen : AreSeen seen files

-- ---- the outcome

-- the outcome of all target files that are seen so, whatever the others have
abbrev pub IsClosed : Course → Known → Outcome → Type 0
IsClosed course k o = (s : Seen) → IsKnownOf s k → (files : Files) → AreSeen s files
    → o ≡ closed_course files course

-- ---- the file of a target

-- the first of the target's names that is there
abbrev pub seen_name : Seen → Bool → Target → Option (List ℕ)
seen_name s consistent t = find (is_named s.names)
    (target_names consistent t.path t.hashes.sha256 t.hashes.sha512)

-- the length of these bytes, and those of their digests that the target lists
abbrev pub measure_for : Target → List ℕ → Measure
measure_for t bytes =
    measure_with (is_some t.hashes.sha256) (is_some t.hashes.sha512) bytes

-- what was read of the file of that name, beside what is listed
abbrev pub seen_at : Seen → Target → List ℕ → Option (List ℕ × Measure)
seen_at s t name = option_map (λ r. (name, measure_for t r.bytes)) (s.read name)

-- the target's file, if it is there and was read
abbrev pub seen_file : Seen → Bool → Target → Option (List ℕ × Measure)
seen_file s consistent t = option_and_then (seen_at s t) (seen_name s consistent t)

-- its name and measure, of the program's value
abbrev pub found_of : Found → List ℕ × Measure
found_of f = (string_bytes f.name, f.measure)
