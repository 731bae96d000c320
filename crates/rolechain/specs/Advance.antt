-- The client workflow up to the top-level targets file (TUF 1.0 sections 5.3 to 5.6), in its order.
use Rattle.std.specs.Prelude.{◌&&◌, Bool, Option, None, is_some, ℕ, ◌+◌, List, find, bytes_eq, codes, zero, suc, nat_le, ◌||◌, not, if◌then◌else◌, Some, Result, Ok, Err, ◌≡◌, ⊤, ◌≤◌, ◌⊎◌, [], ◌∷◌, true, false, option_map}
use Rattle.std.specs.List.{list_all, list_any}
use Rattle.std.specs.Option.{option_map_or}
use Rattle.cjson.specs.Form.{greatest}
use Rattle.cjson.specs.Document.{◌>>=◌, refuse_if, or_refuse}
use Rattle.cjson.specs.declared.fault.NoMemory.{NoMemory}
pub use Rattle.meta.specs.Content.{Part, versioned, root_name, role_name}
pub use Rattle.meta.specs.Metadata.{Root, Timestamp, Snapshot, Targets}
use Rattle.meta.specs.declared.fault.Stop.{Stop}
use Rattle.meta.specs.declared.fault.Stop.TheVariants as stop
pub use Rattle.examine.specs.Checks.{Key, Listing, listed_version, Expectation, RoleKeys, Moment, Fault, NotListed, Expired, Files, is_expired, expiry_check, root_part, first_timestamp, next_timestamp, snapshot_part, targets_part}
use Rattle.examine.specs.declared.expectation.Listed.TheVariants.{Absent, As, NotDue}
use Rattle.examine.specs.declared.expectation.Listed.{Listed}
pub use Rattle.rolechain.specs.declared.end.End.TheVariants.{Ready, Stopped}
use Rattle.rolechain.specs.declared.end.End.TheVariants as end
use Rattle.rolechain.specs.declared.end.Step.TheVariants as step
use Rattle.rolechain.specs.declared.end.Halt.{Halt}
pub use Rattle.rolechain.specs.declared.end.Step.{Step}
pub use Rattle.rolechain.specs.declared.end.End.{End}
use Rattle.rolechain.specs.declared.end.Halt.TheVariants as halt

-- # What is trusted (TUF 1.0 section 5).

-- the root and, if trusted, the timestamp, the snapshot and the top-level targets file
pub record State : Type 0 where
  pub root : Part Root
  pub timestamp : Option (Part Timestamp)
  pub snapshot : Option (Part Snapshot)
  pub targets : Option (Part Targets)

-- all four are there
abbrev pub is_ready : State → Bool
is_ready s = is_some s.timestamp && is_some s.snapshot && is_some s.targets

-- a root alone
abbrev pub first : Part Root → State
first root = record { root = root; timestamp = None; snapshot = None; targets = None }

-- # What each file of the workflow is expected to be (TUF 1.0 sections 5.3 to 5.7).

abbrev pub expected : List ℕ → Listed → List Key → RoleKeys → Expectation
expected name listed ring role = record { name = name; listed = listed; ring = ring; role = role }

-- the root that follows
abbrev pub due_root : Root → Expectation
due_root r = expected (root_name (r.header.version + 1)) NotDue r.ring r.root

abbrev pub due_timestamp : Root → Expectation
due_timestamp r = expected (codes "timestamp.json") NotDue r.ring r.timestamp

-- as the timestamp lists it
abbrev pub due_snapshot : Root → Listing → Expectation
due_snapshot r l =
    expected (versioned r.consistent l.version (codes "snapshot.json")) (As l) r.ring r.snapshot

-- the listing of a role in the snapshot
abbrev pub listing_of : List ℕ → Snapshot → Listed
listing_of role snap =
    option_map_or (λ n. As n.listing)
    (find (λ n. bytes_eq n.name (role_name role)) snap.files) Absent

-- the name of a role's file
abbrev pub file_name : Root → List ℕ → Listed → List ℕ
file_name r role l =
    option_map_or (λ version. versioned r.consistent version (role_name role))
    (listed_version l) (role_name role)

-- a role's targets file, by the keys of the file that delegates to it
abbrev pub due_targets : Root → Snapshot → List ℕ → List Key → RoleKeys → Expectation
due_targets r snap role ring keys =
    expected (file_name r role (listing_of role snap)) (listing_of role snap) ring keys

-- the top-level targets file
abbrev pub top_targets : Root → Snapshot → Expectation
top_targets r snap = due_targets r snap (codes "targets") r.ring r.targets

-- # The workflow, step by step.

-- the state that the cycle leaves, and how it ended
pub record Advanced : Type 0 where
  pub state : State
  pub end : End

-- a stop leaves what was trusted before it
abbrev pub stops : State → Step → Fault → Advanced
stops s at fault = record { state = s; end = Stopped at fault }

-- the result of a check, or the stop of its step
abbrev pub or_stop : {A : Type 0} → State → Step → Result A Fault → Result A Advanced
or_stop s at (Ok x) = Ok x
or_stop s at (Err fault) = Err (stops s at fault)

-- ---- what is trusted next

-- each id of the one list is in the other
abbrev pub are_among : List (List ℕ) → List (List ℕ) → Bool
are_among ids others = list_all (λ id. list_any (bytes_eq id) others) ids

-- the sets of listed ids differ
abbrev pub has_other_ids : RoleKeys → RoleKeys → Bool
has_other_ids old new = not (are_among old.ids new.ids && are_among new.ids old.ids)

-- the timestamp's or the snapshot's keys were changed
abbrev pub is_rotated : Root → Root → Bool
is_rotated old new =
    has_other_ids old.timestamp new.timestamp || has_other_ids old.snapshot new.snapshot

-- a rotation drops the timestamp and the snapshot (5.3.11)
abbrev pub with_root : State → Part Root → State
with_root s r = if is_rotated s.root.reading r.reading
    then record s { root = r; timestamp = None; snapshot = None }
    else record s { root = r }

abbrev pub with_timestamp : State → Part Timestamp → State
with_timestamp s p = record s { timestamp = Some p }

-- if none is newer, the trusted one stays
abbrev pub with_newer : State → Option (Part Timestamp) → State
with_newer s None = s
with_newer s (Some p) = with_timestamp s p

abbrev pub with_snapshot : State → Part Snapshot → State
with_snapshot s p = record s { snapshot = Some p }

abbrev pub with_targets : State → Part Targets → State
with_targets s p = record s { targets = Some p }

abbrev pub reading_in : {A : Type 0} → Option (Part A) → Option A
reading_in p = option_map (λ p. p.reading) p

-- the most roots that a cycle accepts
abbrev pub most_roots : ℕ
most_roots = 256

-- A step returns the state that it leaves, and the cycle goes on, or it stops the cycle.

-- ---- roots (section 5.3)

module _ (files : Files) where
  -- the root of the next version, if there is a file of its name (5.3.3 to 5.3.5)
  abbrev pub following : Root → Option (List ℕ) → Result (Option (Part Root)) Fault
  following r None = Ok None
  following r (Some bytes) = do
    next ← root_part (due_root r) (r.header.version + 1) files
    Ok (Some next)

  -- a root of the greatest version has no successor
  abbrev pub successor : Root → Result (Option (Part Root)) Fault
  successor r =
      if nat_le greatest r.header.version then Ok None
      else following r (files (root_name (r.header.version + 1)))

  -- the roots that follow, at most `most`: each is trusted, and then the one after it, if there is
  -- one (5.3.7 to 5.3.9)
  unfoldable pub followed : ℕ → State → Result State Advanced
  followed zero s = Ok s
  followed (suc most) s = do
    next ← or_stop s step.Root (successor s.root.reading)
    option_map_or (λ next. followed most (with_root s next)) next (Ok s)

module _ (files : Files) (now : Moment) where
  -- the last root must not be expired (5.3.10)
  abbrev pub unexpired : State → Result State Advanced
  unexpired s = do
    current ← or_stop s step.Root (expiry_check s.root.reading.header now)
    Ok s

  abbrev pub root_step : State → Result State Advanced
  root_step s = do
    s ← followed files most_roots s
    unexpired s

  -- ---- the timestamp (section 5.4)

  -- if the version is the trusted one, the trusted file stays, and must not be expired
  abbrev pub renewed : Root → Timestamp → Result (Option (Part Timestamp)) Fault
  renewed r old = do
    newer ← next_timestamp (due_timestamp r) old files now
    current ← refuse_if (not (is_some newer) && is_expired old.header now) Expired
    Ok newer

  -- the timestamp that is trusted next (5.4.1 to 5.4.4)
  abbrev pub newer_timestamp : Root → Option (Part Timestamp)
      → Result (Option (Part Timestamp)) Fault
  newer_timestamp r None = do
    p ← first_timestamp (due_timestamp r) files now
    Ok (Some p)
  newer_timestamp r (Some old) = renewed r old.reading

  abbrev pub timestamp_step : State → Result State Advanced
  timestamp_step s = do
    newer ← or_stop s step.Timestamp (newer_timestamp s.root.reading s.timestamp)
    Ok (with_newer s newer)

  -- ---- the snapshot (section 5.5)

  -- the snapshot that the trusted timestamp lists (5.5.1 to 5.5.6)
  abbrev pub listed_snapshot : State → Result (Part Snapshot) Fault
  listed_snapshot s = do
    t ← or_refuse (reading_in s.timestamp) NotListed
    snapshot_part (due_snapshot s.root.reading t.snapshot) (reading_in s.snapshot) files now

  abbrev pub snapshot_step : State → Result State Advanced
  snapshot_step s = do
    p ← or_stop s step.Snapshot (listed_snapshot s)
    Ok (with_snapshot s p)

  -- ---- the top-level targets file (section 5.6)

  -- the targets file that the trusted snapshot lists (5.6.1 to 5.6.5)
  abbrev pub listed_targets : State → Result (Part Targets) Fault
  listed_targets s = do
    n ← or_refuse (reading_in s.snapshot) NotListed
    targets_part (top_targets s.root.reading n) files now

  abbrev pub targets_step : State → Result State Advanced
  targets_step s = do
    p ← or_stop s step.Targets (listed_targets s)
    Ok (with_targets s p)

  -- ---- the whole

  -- the roots (5.3), the timestamp (5.4), the snapshot (5.5) and the top-level targets file (5.6)
  unfoldable pub steps : State → Result State Advanced
  steps s = do
    s ← root_step s
    s ← timestamp_step s
    s ← snapshot_step s
    targets_step s

-- a cycle that no step stops is ready
abbrev pub ended : Result State Advanced → Advanced
ended (Ok s) = record { state = s; end = Ready }
ended (Err a) = a

abbrev pub advanced : Files → Moment → State → Advanced
advanced files now s = ended (steps files now s)

-- # The chain of roots (TUF 1.0 section 5.3).

-- two consecutive roots of the list list different keys for the timestamp or the snapshot
abbrev pub rotates : Part Root → List (Part Root) → Bool
rotates a [] = false
rotates a (b ∷ more) = is_rotated a.reading b.reading || rotates b more

abbrev pub last_root : Part Root → List (Part Root) → Part Root
last_root a [] = a
last_root a (b ∷ more) = last_root b more

-- a cycle that stops at a root or at the timestamp
abbrev pub is_early : End → Bool
is_early Ready = false
is_early (Stopped step.Root fault) = true
is_early (Stopped step.Timestamp fault) = true
is_early (Stopped step.Snapshot fault) = false
is_early (Stopped step.Targets fault) = false

module _ (files : Files) where
  -- from a root to one of the next version, signed as the root before and it itself require
  abbrev pub IsRootStep : Part Root → Part Root → Type 0
  IsRootStep a b = successor files a.reading ≡ Ok (Some b)

  -- a chain of `n` root steps from the one root to the other
  abbrev pub IsChain : ℕ → Part Root → Part Root → Type 0
  IsChain zero a b = a ≡ b
  IsChain (suc n) a b = (next : Part Root) × IsRootStep a next × IsChain n next b

  -- the longest chain from the one root ends at the other, or a chain of `most` steps does
  abbrev pub IsLongestChain : ℕ → Part Root → Part Root → Type 0
  IsLongestChain most a b =
      (n : ℕ) × (n ≤ most) × IsChain n a b
      × ((n ≡ most) ⊎ ((next : Part Root) → ¬ IsRootStep b next))

  -- each root is a root step from the one before it
  abbrev pub AreChained : Part Root → List (Part Root) → Type 0
  AreChained a [] = Unit {0}
  AreChained a (b ∷ more) = IsRootStep a b × AreChained b more

  -- the roots of a chain were trusted, and the timestamp and the snapshot are dropped exactly if
  -- two consecutive ones are rotated (5.3.11)
  pub record IsDropped (old new : State) : Type 0 where
    pub roots : List (Part Root)
    pub chained : AreChained old.root roots
    pub last : last_root old.root roots ≡ new.root
    pub timestamp : new.timestamp ≡ (if rotates old.root roots then None else old.timestamp)
    pub snapshot : new.snapshot ≡ (if rotates old.root roots then None else old.snapshot)

-- # What the values of the program represent.

abbrev pub advanced_of : State × End → Advanced
advanced_of r = record { state = r.0; end = r.1 }

-- a check that ends early, in a step of the cycle
abbrev pub halt_of : Step → Stop → Halt
halt_of at (stop.Refused fault) = halt.Stopped at fault
halt_of at stop.NoMemory = halt.NoMemory

abbrev pub or_halt : {A : Type 0} → Step → Result A Stop → Result A Halt
or_halt at (Ok x) = Ok x
or_halt at (Err why) = Err (halt_of at why)

-- a step that goes on from the state, or stops the cycle with it; if it is out of memory, nothing
-- is known
abbrev pub Leaves : Result State Advanced → Result ⊤ Halt → State → Type 0
Leaves r (Ok done) s = r ≡ Ok s
Leaves r (Err (halt.Stopped at fault)) s = r ≡ Err (stops s at fault)
Leaves r (Err halt.NoMemory) s = Unit {0}

-- how the cycle ends then
abbrev pub Ends : Result ⊤ Halt → Result End NoMemory → Type 0
Ends (Ok done) r = r ≡ Ok end.Ready
Ends (Err (halt.Stopped at fault)) r = r ≡ Ok (end.Stopped at fault)
Ends (Err halt.NoMemory) (Ok e) = ⊥
Ends (Err halt.NoMemory) (Err e) = Unit {0}
