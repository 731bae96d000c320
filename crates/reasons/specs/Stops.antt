-- Why the step of a cycle stops it, from the state that the stop leaves (TUF 1.0 sections 5.3 to
-- 5.6), and why a role's file is refused that a search visits (section 5.6.7).
use Rattle.std.specs.Prelude.{ℕ, ◌+◌, ◌&&◌, Bool, true, false, not, nat_le, if◌then◌else◌, List, Option, Some, None, is_some, Result, Ok, ⊤}
use Rattle.std.specs.Option.{option_map_or}
use Rattle.serde_json.specs.Data.{object, no_members}
use Rattle.cjson.specs.Document.{◌>>=◌, refuse_if, or_refuse}
use Rattle.cjson.specs.Form.{Data, greatest, ok}
use Rattle.moment.specs.Moment.{Moment}
use Rattle.meta.specs.Content.{Part, document_of, root_name}
use Rattle.meta.specs.Metadata.{Root, Timestamp, Snapshot, Targets}
use Rattle.meta.specs.declared.fault.Fault.{Fault}
use Rattle.meta.specs.declared.fault.Fault.TheVariants as fault
use Rattle.meta.specs.declared.header.Header.{Header}
use Rattle.examine.specs.Checks.{Files, is_expired}
use Rattle.rolechain.specs.Advance.{State, reading_in, due_root, due_timestamp, due_snapshot, due_targets, top_targets}
use Rattle.rolechain.specs.declared.end.Step.{Step}
use Rattle.rolechain.specs.declared.end.Step.TheVariants as step
use Rattle.reasons.specs.Reasons.{By, first_check, keys_in, next_check, root_check, snapshot_check, targets_check, trusted_check}
use Rattle.reasons.specs.declared.reason.Reason.{Reason}
use Rattle.reasons.specs.declared.reason.Reason.TheVariants as reason

-- the object of keys of a root file
abbrev pub root_keys : Part Root → Data
root_keys p =
    option_map_or (λ doc. keys_in doc.signed) (ok (document_of p.bytes)) (object no_members)

-- # The steps of a cycle, by the trusted root's object of keys.

module _ (files : Files) (keys : Data) where
  abbrev pub following_check : Root → Option (List ℕ) → Result (Option (Part Root)) Reason
  following_check r None = Ok None
  following_check r (Some bytes) = do
    next ← root_check (due_root r) keys (r.header.version + 1) files
    Ok (Some next)

  abbrev pub successor_check : Root → Result (Option (Part Root)) Reason
  successor_check r =
      if nat_le greatest r.header.version then Ok None
      else following_check r (files (root_name (r.header.version + 1)))

-- the fault may be that of a trusted file
abbrev pub is_expiry : Fault → Bool
is_expiry fault.Expired = true
is_expiry other = false

abbrev pub expiry_first : Fault → Header → Moment → Result ⊤ Reason
expiry_first fault h now = if is_expiry fault then trusted_check h now else Ok tt

module _ (files : Files) (now : Moment) (keys : Data) where
  -- an expired last root, or else a refused successor (section 5.3)
  abbrev pub root_stop : Fault → Root → Result ⊤ Reason
  root_stop fault r = do
    current ← expiry_first fault r.header now
    next ← successor_check files keys r
    Ok tt

  abbrev pub renewed_check : Root → Timestamp → Result (Option (Part Timestamp)) Reason
  renewed_check r old = do
    newer ← next_check (due_timestamp r) keys old files now
    current ← refuse_if (not (is_some newer) && is_expired old.header now)
        (reason.TrustedExpired old.header.expires now)
    Ok newer

  abbrev pub newer_check : Root → Option (Part Timestamp)
      → Result (Option (Part Timestamp)) Reason
  newer_check r None = do
    p ← first_check (due_timestamp r) keys files now
    Ok (Some p)
  newer_check r (Some old) = renewed_check r old.reading

  -- section 5.4
  abbrev pub timestamp_stop : State → Result ⊤ Reason
  timestamp_stop s = do
    newer ← newer_check s.root.reading s.timestamp
    Ok tt

  abbrev pub listed_snapshot_check : State → Result (Part Snapshot) Reason
  listed_snapshot_check s = do
    t ← or_refuse (reading_in s.timestamp) reason.NotListed
    snapshot_check (due_snapshot s.root.reading t.snapshot) keys (reading_in s.snapshot) files now

  -- section 5.5
  abbrev pub snapshot_stop : State → Result ⊤ Reason
  snapshot_stop s = do
    p ← listed_snapshot_check s
    Ok tt

  -- section 5.6
  abbrev pub targets_stop : State → Result ⊤ Reason
  targets_stop s = do
    n ← or_refuse (reading_in s.snapshot) reason.NotListed
    p ← targets_check (top_targets s.root.reading n) keys files now
    Ok tt

  abbrev pub step_stop : State → Step → Fault → Result ⊤ Reason
  step_stop s step.Root fault = root_stop fault s.root.reading
  step_stop s step.Timestamp fault = timestamp_stop s
  step_stop s step.Snapshot fault = snapshot_stop s
  step_stop s step.Targets fault = targets_stop s

abbrev pub stop : Files → Moment → State → Step → Fault → Result ⊤ Reason
stop files now s at fault = step_stop files now (root_keys s.root) s at fault

-- # The file of a role that a search visits, by the keys and the threshold of the delegation that
-- it follows (section 5.6.7).

abbrev pub role_stop : Files → Moment → Root → Snapshot → List ℕ → By → Result ⊤ Reason
role_stop files now top snap name by = do
  p ← targets_check (due_targets top snap name by.ring by.role) by.keys files now
  Ok tt
