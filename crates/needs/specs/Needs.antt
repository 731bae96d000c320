-- The files that the workflow looked up and found absent, in the order in which it looks them up
-- (TUF 1.0 sections 5.3 to 5.7).
use Rattle.std.specs.Prelude.{ℕ, ◌+◌, min, nat_lt, Bool, true, false, not, ◌&&◌, if◌then◌else◌, List, [], ◌∷◌, ◌++◌, map, fold, codes, bytes_eq, Option, Some, None, is_some, option_map, option_and_then, option_to_list, String}
use Rattle.std.specs.Option.{option_map_or}
use Rattle.std.specs.BTreeMap.{BTreeMap, get_by_text}
use Rattle.std.specs.List.{list_any}
use Rattle.std.specs.declared.alloc.Global.{Global}
use Rattle.cjson.specs.Form.{greatest}
use Rattle.meta.specs.Content.{root_name, versioned, root_limit, timestamp_limit, snapshot_limit, targets_limit}
use Rattle.meta.specs.Metadata.{Root, Snapshot}
use Rattle.meta.specs.declared.fault.Fault.TheVariants.{Missing}
use Rattle.meta.specs.declared.listing.Listing.{Listing}
use Rattle.examine.specs.Checks.{listed_length, target_names}
use Rattle.rolechain.specs.Advance.{file_name, listing_of, most_roots}
use Rattle.rolechain.specs.declared.end.Step.TheVariants as step
use Rattle.rolechain.specs.declared.end.Step.{Step}
use Rattle.deleg.specs.declared.accepted.Search.{Search}
use Rattle.deleg.specs.declared.found.Found.TheVariants.{RoleRefused}
use Rattle.deleg.specs.declared.found.Found.{Found}
pub use Rattle.cycle.specs.Workflow.{Course, End, Fault, Files, Ready, Request, State, Stopped, Target, course, target_of}
use Rattle.needs.specs.declared.need.Place.TheVariants.{Metadata, Targets}
use Rattle.needs.specs.declared.need.Place.{Place}
pub use Rattle.needs.specs.declared.need.Need.{Need}

-- # A file that is absent.

-- whether there is a file of a name
abbrev pub Names : Type 0
Names = List ℕ → Bool

-- the names of a map
abbrev pub is_in : {X : Type 0} → BTreeMap (String Global) X → Names
is_in files name = is_some (get_by_text files name)

abbrev pub absent : Place → Bool → List ℕ → ℕ → Need
absent place optional name most =
    record { place = place; optional = optional; name = name; most = most }

-- maximum number of bytes: the limit of the kind, or the listed length if that is less
abbrev pub most_bytes : ℕ → Option ℕ → ℕ
most_bytes limit None = limit
most_bytes limit (Some length) = min limit length

-- # The files of the steps (sections 5.3 to 5.6).

-- after the last accepted root the next one is looked up, unless as many roots were accepted as a
-- cycle may accept, or there is no greater version
abbrev pub is_sought : Root → Root → Bool
is_sought old last =
    nat_lt last.header.version greatest
    && nat_lt last.header.version (old.header.version + most_roots)

-- the next root, which may be absent for good
abbrev pub root_need : Names → Root → Root → Option Need
root_need there old last =
    let name = root_name (last.header.version + 1) in
    if is_sought old last && not (there name) then Some (absent Metadata true name root_limit)
    else None

abbrev pub timestamp_need : Need
timestamp_need = absent Metadata false (codes "timestamp.json") timestamp_limit

-- the snapshot with this listing
abbrev pub snapshot_need : Root → Listing → Need
snapshot_need r l =
    absent Metadata false (versioned r.consistent l.version (codes "snapshot.json"))
    (most_bytes snapshot_limit l.length)

-- a role's targets file
abbrev pub role_need : Root → Snapshot → List ℕ → Need
role_need r snap role =
    let l = listing_of role snap in
    absent Metadata false (file_name r role l) (most_bytes targets_limit (listed_length l))

-- a role's targets file below a trusted snapshot
abbrev pub role_below : State → List ℕ → Option Need
role_below s role = option_map (λ n. role_need s.root.reading n.reading role) s.snapshot

-- the file of a step from the state; a root that is absent stops no cycle
abbrev pub step_need : State → Step → Option Need
step_need s step.Root = None
step_need s step.Timestamp = Some timestamp_need
step_need s step.Snapshot =
    option_map (λ t. snapshot_need s.root.reading t.reading.snapshot) s.timestamp
step_need s step.Targets = role_below s (codes "targets")

abbrev pub is_missing : Fault → Bool
is_missing Missing = true
is_missing other = false

-- the file that the cycle stopped for
abbrev pub end_need : State → End → Option Need
end_need s Ready = None
end_need s (Stopped at fault) = if is_missing fault then step_need s at else None

-- # The files of the searches (sections 5.6.7 and 5.7).

-- the file of the role that a search was refused
abbrev pub found_need : State → Found → Option Need
found_need s (RoleRefused role fault) = if is_missing fault then role_below s role else None
found_need s other = None

abbrev pub search_need : State → Option Search → Option Need
search_need s search = option_and_then (λ x. found_need s x.found) search

abbrev pub is_none_of : List (List ℕ) → Bool
is_none_of [] = true
is_none_of (name ∷ names) = false

-- a target's names in order, up to one that is there: each is optional but the last, since the
-- workflow goes on to the next
abbrev pub name_needs : Names → ℕ → List (List ℕ) → List Need
name_needs there most [] = []
name_needs there most (name ∷ names) =
    if there name then []
    else absent Targets (not (is_none_of names)) name most ∷ name_needs there most names

abbrev pub target_need : Names → Bool → Target → List Need
target_need there consistent t =
    name_needs there t.length
    (target_names consistent t.path t.hashes.sha256 t.hashes.sha512)

-- the file of the target that a search found
abbrev pub file_needs : Names → Bool → Option Search → List Need
file_needs there consistent search =
    option_map_or (target_need there consistent) (target_of search) []

-- # All of them.

-- a file of that name, which is optional or not
abbrev pub is_same : Bool → List ℕ → Need → Bool
is_same optional name n =
    (if optional then n.optional else not n.optional) && bytes_eq n.name name

-- it is among them
abbrev pub is_needed : List Need → Bool → List ℕ → Bool
is_needed all optional name = list_any (is_same optional name) all

-- one more, unless it is among them
abbrev pub noted : List Need → Option Need → List Need
noted all None = all
noted all (Some n) = if is_needed all n.optional n.name then all else all ++ n ∷ []

-- each the first time that it was looked up
abbrev pub each_once : List (Option Need) → List Need
each_once found = fold noted [] found

-- the root after the last one of a course that began with the old one
abbrev pub next_root : Root → Course → Names → List Need
next_root old c there = option_to_list (root_need there old c.trusted.root.reading)

-- the file that the cycle stopped for, and those of the roles that searches were refused
abbrev pub metadata_needs : Course → List Need
metadata_needs c = each_once (end_need c.trusted c.end ∷ map (search_need c.trusted) c.searches)

-- those of a search too
abbrev pub noted_files : Names → Bool → List Need → Option Search → List Need
noted_files there consistent all search =
    fold noted all (map Some (file_needs there consistent search))

-- the files of the targets that the searches found
abbrev pub target_needs : Course → Names → List Need
target_needs c there =
    fold (noted_files there c.trusted.root.reading.consistent) [] c.searches

-- the metadata files: the next root, and the others
abbrev pub missing_metadata : Root → Course → Names → List Need
missing_metadata old c metadata = next_root old c metadata ++ metadata_needs c

-- these, and the files of targets, which are looked up after all searches
abbrev pub needs : Root → Course → Names → Names → List Need
needs old c metadata targets = missing_metadata old c metadata ++ target_needs c targets
