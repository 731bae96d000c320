-- The checks of a file of any kind, and their result (TUF 1.0 sections 5.3 to 5.7).
use Rattle.std.specs.Prelude.{ℕ, Option, Some, None, option_map, Result, Ok, Err}
use Rattle.cjson.specs.Document.{◌>>=◌}
use Rattle.examine.specs.Checks.{Expectation, Files, Fault, Moment, Part, Timestamp, Snapshot, root_part, first_timestamp, next_timestamp, snapshot_part, targets_part, expectation}
use Rattle.examine.specs.declared.expectation.Expect as program
use Rattle.examine.specs.declared.expectation.Kind as program_kind
use Rattle.examine.specs.declared.expectation.Kind.TheVariants as given
use Rattle.examine.specs.declared.examined.File.{File}
use Rattle.examine.specs.declared.examined.File.TheVariants as file
use Rattle.examine.specs.declared.examined.Examined.{Examined}
use Rattle.examine.specs.declared.examined.Examined.TheVariants.{Good, Same, Refused}

-- the kind of a file: a root of that version, a timestamp or a snapshot beside the trusted one, if
-- there is one, or a targets file
pub data Kind : Type 0 where
  root : ℕ → Kind
  timestamp : Option Timestamp → Kind
  snapshot : Option Snapshot → Kind
  targets : Kind

pub record Expect : Type 0 where
  pub kind : Kind
  pub file : Expectation

-- a timestamp; none if it has the version of the trusted one
abbrev pub timestamp_part : Option Timestamp → Expectation → Files → Moment
    → Result (Option (Part Timestamp)) Fault
timestamp_part None e files now = do
  part ← first_timestamp e files now
  Ok (Some part)
timestamp_part (Some old) e files now = next_timestamp e old files now

-- the file; none for a timestamp of the version of the trusted one
abbrev pub file_part : Kind → Expectation → Files → Moment → Result (Option File) Fault
file_part (root due) e files now = do
  part ← root_part e due files
  Ok (Some (file.Root part))
file_part (timestamp old) e files now = do
  part ← timestamp_part old e files now
  Ok (option_map file.Timestamp part)
file_part (snapshot old) e files now = do
  part ← snapshot_part e old files now
  Ok (Some (file.Snapshot part))
file_part targets e files now = do
  part ← targets_part e files now
  Ok (Some (file.Targets part))

abbrev pub result_of : Result (Option File) Fault → Examined
result_of (Ok (Some file)) = Good file
result_of (Ok None) = Same
result_of (Err fault) = Refused fault

-- the result of the checks of the file
abbrev pub examined : Expect → Files → Moment → Examined
examined e files now = result_of (file_part e.kind e.file files now)

-- # What the values of the program represent.

abbrev pub kind : program_kind.Kind → Kind
kind (given.Root due) = root due
kind (given.Timestamp old) = timestamp (option_map (λ t. t.now) old)
kind (given.Snapshot old) = snapshot (option_map (λ s. s.now) old)
kind given.Targets = targets

abbrev pub expect : program.Expect → Expect
expect e = record { kind = kind e.kind; file = expectation e.file }
