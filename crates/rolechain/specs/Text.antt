-- The state file: the canonical JSON of an object with the trusted files in hexadecimal.
use denote.Ref.{Bor}
use Rattle.std.specs.Prelude.{◌≡◌, ◌≢◌, ℕ, not, List, Option, Some, None, bytes_eq, option_map, Result, Ok, Err}
use Rattle.cjson.specs.Document.{tree_of, ◌>>=◌, refuse_if, or_refuse}
use Rattle.meta.specs.Content.{Part, part_of, root_limit, timestamp_limit, snapshot_limit, targets_limit}
use Rattle.meta.specs.declared.fault.Fault.{Fault}
use Rattle.meta.specs.Metadata as form
use Rattle.meta.specs.declared.fault.Fault.TheVariants as fault
use Rattle.rolechain.specs.Advance.{first}
use Rattle.rolechain.specs.Kept.{State, Kept, kept, kept_text, has_long}
use Rattle.rolechain.specs.declared.fault.StateFault.{StateFault}
use Rattle.rolechain.specs.declared.fault.StateFault.TheVariants.{TooLong, Malformed, NoMemory}

-- a file over the limit of its kind is too long, and one without its reading is malformed
abbrev pub of_fault : Fault → StateFault
of_fault fault.TooLong = TooLong
of_fault other = Malformed

abbrev pub or_state_fault : {A : Type 0} → Result A Fault → Result A StateFault
or_state_fault (Ok x) = Ok x
or_state_fault (Err fault) = Err (of_fault fault)

abbrev pub part_in : {A : Type 0} → (List ℕ → Result (Part A) Fault) → Option (List ℕ)
    → Result (Option (Part A)) StateFault
part_in read None = Ok None
part_in read (Some bytes) = do
  part ← or_state_fault (read bytes)
  Ok (Some part)

-- the bytes that are lent, if there are some
abbrev pub lent_bytes : Option (Bor (List ℕ)) → Option (List ℕ)
lent_bytes = option_map (λ b. b.now)

-- the state of a root file that the caller trusts
abbrev pub root_state : List ℕ → Result State StateFault
root_state bytes = do
  root ← or_state_fault (part_of form.root root_limit bytes)
  Ok (first root)

-- the state of these files, each read in turn
abbrev pub state_in : Kept → Result State StateFault
state_in k = do
  root ← or_state_fault (part_of form.root root_limit k.root)
  snapshot ← part_in (part_of form.snapshot snapshot_limit) k.snapshot
  targets ← part_in (part_of form.targets targets_limit) k.targets
  timestamp ← part_in (part_of form.timestamp timestamp_limit) k.timestamp
  Ok (record { root = root; timestamp = timestamp; snapshot = snapshot; targets = targets })

-- the files of a state's text, which has exactly this form
abbrev pub kept_in : List ℕ → Result Kept StateFault
kept_in text = do
  tree ← or_refuse (tree_of text) Malformed
  k ← or_refuse (kept tree) Malformed
  spelled ← refuse_if (not (bytes_eq text (kept_text k))) Malformed
  Ok k

-- the state of a text, or its fault
abbrev pub state_of : List ℕ → Result State StateFault
state_of text = do
  k ← kept_in text
  short ← refuse_if (has_long k) TooLong
  state_in k

-- what a call returns that reads a state; if it is out of memory, nothing is known
abbrev pub ReadsState : {A : Type 0} → Result A StateFault → Result A StateFault → Type 0
ReadsState r (Ok x) = r ≡ Ok x
ReadsState r (Err e) = e ≢ NoMemory → r ≡ Err e
