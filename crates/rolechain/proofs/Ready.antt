-- A cycle that ends ready leaves a ready state.
use Rattle.std.proofs.Common.{◌≡◌, ℕ, zero, suc, Bool, true, false, ◌&&◌, Option, Some, None, Result, Ok, Err, is_some, refl, ap}
use Rattle.cjson.specs.Document.{◌>>=◌}
use Rattle.moment.specs.Moment.{Moment}
use Rattle.meta.specs.Metadata.{Root, Timestamp}
use Rattle.meta.specs.Content.{Part}
use Rattle.meta.specs.declared.fault.Fault.{Fault}
use Rattle.examine.specs.Checks.{Files, expiry_check, first_timestamp}
use Rattle.rolechain.specs.Advance.{State, is_ready, due_timestamp, Advanced, or_stop, with_root, with_newer, successor, followed, unexpired, root_step, renewed, newer_timestamp, timestamp_step, listed_snapshot, snapshot_step, listed_targets, targets_step, steps, ended, advanced}
use Rattle.rolechain.specs.declared.end.Step.{Step}
use Rattle.rolechain.specs.declared.end.Step.TheVariants as step
use Rattle.rolechain.specs.declared.end.End.TheVariants.{Ready}
use Rattle.rolechain.proofs.Chain.{onward}

-- if a step goes on, the state passes the test; a stop isn't ready
abbrev Gives : (State → Bool) → Result State Advanced → Type 0
Gives test (Ok s) = test s ≡ true
Gives test (Err a) = ¬ (a.end ≡ Ready)

gives-next : (first next : State → Bool) (r : Result State Advanced) (f : State → Result State Advanced) → Gives first r
    → ((s : State) → first s ≡ true → Gives next (f s)) → Gives next (r >>= f)
gives-next first next (Ok s) f h more = more s h
gives-next first next (Err a) f h more = h

gives-checked : {A : Type 0} (test : State → Bool) (s : State) (at : Step) (r : Result A Fault) (f : A → Result State Advanced)
    → ((x : A) → Gives test (f x)) → Gives test (or_stop s at r >>= f)
gives-checked test s at (Ok x) f more = more x
gives-checked test s at (Err fault) f more = λ e. cc

abbrev any : State → Bool
any s = true

abbrev has_timestamp : State → Bool
has_timestamp s = is_some s.timestamp

abbrev has_snapshot : State → Bool
has_snapshot s = is_some s.timestamp && is_some s.snapshot

both : (b : Bool) → b ≡ true → (b && true) ≡ true
both true e = refl
both false e = absurd (cc)

all_three : (a b : Bool) → (a && b) ≡ true → (a && b && true) ≡ true
all_three true true e = refl
all_three true false e = absurd (cc)
all_three false b e = absurd (cc)

first-there : (s : State) (r : Result (Part Timestamp) Fault) → Gives has_timestamp (or_stop s step.Timestamp (r >>= λ p. Ok (Some p)) >>= λ n. Ok (with_newer s n))
first-there s (Ok p) = refl
first-there s (Err fault) = λ e. cc

later-there : (s : State) (r : Result (Option (Part Timestamp)) Fault) → is_some s.timestamp ≡ true → Gives has_timestamp (or_stop s step.Timestamp r >>= λ n. Ok (with_newer s n))
later-there s (Ok (Some p)) there = refl
later-there s (Ok None) there = there
later-there s (Err fault) there = λ e. cc

module _ (files : Files) (now : Moment) where
  onward-gives : (n : ℕ) (s : State) (o : Option (Part Root)) → ((t : State) → Gives any (followed files n t)) → Gives any (onward files now n s o)
  onward-gives n s None given = refl
  onward-gives n s (Some next) given = given (with_root s next)

  followed-gives : (most : ℕ) (s : State) → Gives any (followed files most s)
  unfolding followed
  followed-gives zero s = refl
  followed-gives (suc most) s = gives-checked any s step.Root (successor files s.root.reading) _ (λ o. onward-gives most s o (followed-gives most))

  root_step-gives : (s : State) → Gives any (root_step files now s)
  root_step-gives s = gives-next any any (followed files 256 s) (unexpired files now) (followed-gives 256 s)
      (λ t e. gives-checked any t step.Root (expiry_check t.root.reading.header now) _ (λ x. refl))

  -- the first timestamp is there, or the trusted one stays
  newer-there : (s : State) (o : Option (Part Timestamp)) → s.timestamp ≡ o
      → Gives has_timestamp (or_stop s step.Timestamp (newer_timestamp files now s.root.reading o) >>= λ n. Ok (with_newer s n))
  newer-there s None is = first-there s (first_timestamp (due_timestamp s.root.reading) files now)
  newer-there s (Some old) is = later-there s (renewed files now s.root.reading old.reading) (ap is_some is)

  timestamp_step-gives : (s : State) → Gives has_timestamp (timestamp_step files now s)
  timestamp_step-gives s = newer-there s s.timestamp refl

  snapshot_step-gives : (s : State) → has_timestamp s ≡ true → Gives has_snapshot (snapshot_step files now s)
  snapshot_step-gives s there = gives-checked has_snapshot s step.Snapshot (listed_snapshot files now s) _ (λ p. both (is_some s.timestamp) there)

  targets_step-gives : (s : State) → has_snapshot s ≡ true → Gives is_ready (targets_step files now s)
  targets_step-gives s there = gives-checked is_ready s step.Targets (listed_targets files now s) _ (λ p. all_three (is_some s.timestamp) (is_some s.snapshot) there)

  steps-give : (s : State) → Gives is_ready (steps files now s)
  unfolding steps
  steps-give s =
      gives-next any is_ready (root_step files now s) _ (root_step-gives s) (λ r e.
      gives-next has_timestamp is_ready (timestamp_step files now r) _ (timestamp_step-gives r) (λ t there.
      gives-next has_snapshot is_ready (snapshot_step files now t) _ (snapshot_step-gives t there) (λ n both.
      targets_step-gives n both)))

ended-ready : (r : Result State Advanced) → Gives is_ready r → (ended r).end ≡ Ready → is_ready (ended r).state ≡ true
ended-ready (Ok s) h e = h
ended-ready (Err a) h e = absurd (h e)

pub advanced-ready : (files : Files) (now : Moment) (s : State) → (advanced files now s).end ≡ Ready → is_ready (advanced files now s).state ≡ true
advanced-ready files now s = ended-ready (steps files now s) (steps-give files now s)
