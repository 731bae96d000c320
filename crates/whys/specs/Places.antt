-- Where a refused metadata file is, and by which files it was examined (TUF 1.0 sections 5.3 to
-- 5.6.7).
use Rattle.std.specs.Prelude.{ℕ, ◌+◌, List, [], codes, length, Option, Some, None, option_map}
use Rattle.std.specs.Option.{option_map_or}
use Rattle.meta.specs.Content.{root_name}
use Rattle.meta.specs.Metadata.{Root, Snapshot}
use Rattle.examine.specs.Checks.{Files}
use Rattle.rolechain.specs.Advance.{State, due_root, due_snapshot, due_timestamp, due_targets, reading_in, top_targets}
use Rattle.rolechain.specs.declared.end.Step.{Step}
use Rattle.rolechain.specs.declared.end.Step.TheVariants as step
use Rattle.folder.specs.declared.measure.Measure.{Measure}
use Rattle.reasons.specs.Reasons.{By}
use Rattle.whys.specs.declared.place.Listings.{Listings}
use Rattle.whys.specs.declared.place.Place.{Place}

-- ---- the name of the file that a step examines

-- without a trusted timestamp, the snapshot has no version
abbrev pub snapshot_name : State → List ℕ
snapshot_name s =
    option_map_or (λ t. (due_snapshot s.root.reading t.snapshot).name) (reading_in s.timestamp)
    (codes "snapshot.json")

abbrev pub targets_name : State → List ℕ
targets_name s =
    option_map_or (λ n. (top_targets s.root.reading n).name) (reading_in s.snapshot)
    (codes "targets.json")

abbrev pub step_name : State → Step → List ℕ
step_name s step.Root = root_name (s.root.reading.header.version + 1)
step_name s step.Timestamp = codes "timestamp.json"
step_name s step.Snapshot = snapshot_name s
step_name s step.Targets = targets_name s

-- ---- the whole

-- the version of a snapshot, and the number of names that it lists
abbrev pub listings : Snapshot → Listings
listings n = record { version = n.header.version; names = length n.files }

abbrev pub place_of : Files → List ℕ → List ℕ → Option Snapshot → Place
place_of files name by snap = record {
  file = name;
  length = option_map (λ bytes. length bytes) (files name);
  by = by;
  snapshot = option_map listings snap;
}

-- of a role's file, by the listing of the trusted snapshot and the keys of a file of that name
abbrev pub role_place : Files → Root → Snapshot → List ℕ → By → List ℕ → Place
role_place files top snap name by file =
    place_of files (due_targets top snap name by.ring by.role).name file (Some snap)

-- of a target's file, by its name and measure
abbrev pub target_place : List ℕ → Measure → Place
target_place name m = record { file = name; length = Some m.length; by = []; snapshot = None }

-- of the step that stopped a cycle, from the state that the stop left
abbrev pub stop_place : Files → State → Step → Place
stop_place files s at =
    place_of files (step_name s at) (root_name s.root.reading.header.version)
    (reading_in s.snapshot)
