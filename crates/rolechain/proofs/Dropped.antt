-- What a chain of roots leaves of the timestamp and of the snapshot.
use Rattle.std.proofs.Common.{◌≡◌, ℕ, zero, suc, ◌||◌, [], ◌∷◌, Bool, true, false, Option, Some, None, Result, Ok, Err, refl, ap, ◌∙◌, subst}
use Rattle.std.specs.Prelude.{if◌then◌else◌, ⊤}
use Rattle.cjson.specs.Document.{◌>>=◌}
use Rattle.moment.specs.Moment.{Moment}
use Rattle.meta.specs.Metadata.{Root, Timestamp, Snapshot, Targets}
use Rattle.meta.specs.Content.{Part}
use Rattle.meta.specs.declared.fault.Fault.{Fault}
use Rattle.examine.specs.Checks.{Files, expiry_check}
use Rattle.rolechain.specs.Advance.{State, Advanced, or_stop, is_rotated, with_root, with_newer, successor, followed, most_roots, unexpired, root_step, newer_timestamp, timestamp_step, listed_snapshot, snapshot_step, listed_targets, targets_step, steps, ended, advanced, AreChained, IsDropped, IsRootStep, rotates, last_root, is_early}
use Rattle.rolechain.specs.declared.end.Step.TheVariants as step
use Rattle.rolechain.proofs.Chain.{behind}
use Rattle.rolechain.proofs.Longest.{with_root-root}

-- the first rotation, or a later one
either : {A : Type 0} (b c : Bool) (o : Option A) → (if c then None else (if b then None else o)) ≡ (if b || c then None else o)
either true true o = refl
either true false o = refl
either false c o = refl

kept_timestamp : (b : Bool) (s t : State) → (if b then s else t).timestamp ≡ (if b then s.timestamp else t.timestamp)
kept_timestamp true s t = refl
kept_timestamp false s t = refl

kept_snapshot : (b : Bool) (s t : State) → (if b then s else t).snapshot ≡ (if b then s.snapshot else t.snapshot)
kept_snapshot true s t = refl
kept_snapshot false s t = refl

module _ (files : Files) (now : Moment) where
  -- a root more in front
  further : (s : State) (r : Part Root) (t : State) → IsRootStep files s.root r → IsDropped files (with_root s r) t → IsDropped files s t
  further s r t first d =
      let b = is_rotated s.root.reading r.reading in
      let behind : AreChained files r d.roots × (last_root r d.roots ≡ t.root) = subst (λ a. AreChained files a d.roots × (last_root a d.roots ≡ t.root)) (with_root-root s r) (d.chained, d.last) in
      let rest : rotates (with_root s r).root d.roots ≡ rotates r d.roots = ap (λ a. rotates a d.roots) (with_root-root s r) in
      record {
        roots = r ∷ d.roots;
        chained = (first, behind.0);
        last = behind.1;
        timestamp = d.timestamp ∙ ap (λ c. if c then None else (with_root s r).timestamp) rest ∙ ap (λ o. if rotates r d.roots then None else o) (kept_timestamp b _ _) ∙ either b (rotates r d.roots) s.timestamp;
        snapshot = d.snapshot ∙ ap (λ c. if c then None else (with_root s r).snapshot) rest ∙ ap (λ o. if rotates r d.roots then None else o) (kept_snapshot b _ _) ∙ either b (rotates r d.roots) s.snapshot;
      }

  abbrev Drops : State → Result State Advanced → Type 0
  Drops s (Ok t) = IsDropped files s t
  Drops s (Err a) = IsDropped files s a.state

  further-drops : (s : State) (r : Part Root) (o : Result State Advanced) → IsRootStep files s.root r → Drops (with_root s r) o → Drops s o
  further-drops s r (Ok t) first d = further s r t first d
  further-drops s r (Err a) first d = further s r a.state first d

  none : (s : State) → IsDropped files s s
  none s = record { roots = []; chained = tt; last = refl; timestamp = refl; snapshot = refl }

  behind-drops : (most : ℕ) (s : State) (o : Result (Option (Part Root)) Fault) → successor files s.root.reading ≡ o
      → ((t : State) → Drops t (followed files most t)) → Drops s (behind files now most s o)
  behind-drops most s (Ok None) e more = none s
  behind-drops most s (Ok (Some r)) e more = further-drops s r _ e (more (with_root s r))
  behind-drops most s (Err fault) e more = none s

  followed-drops : (most : ℕ) (s : State) → Drops s (followed files most s)
  unfolding followed
  followed-drops zero s = none s
  followed-drops (suc most) s = behind-drops most s (successor files s.root.reading) refl (followed-drops most)

  current-drops : (s t : State) (r : Result ⊤ Fault) → IsDropped files s t → Drops s (or_stop t step.Root r >>= λ x. Ok t)
  current-drops s t (Ok x) d = d
  current-drops s t (Err fault) d = d

  root_step-drops : (s : State) (o : Result State Advanced) → Drops s o → Drops s (o >>= unexpired files now)
  root_step-drops s (Ok t) d = current-drops s t (expiry_check t.root.reading.header now) d
  root_step-drops s (Err a) d = d

  -- ---- the later steps

  abbrev DropsEarly : State → Result State Advanced → Type 0
  DropsEarly s (Ok t) = Unit {0}
  DropsEarly s (Err a) = is_early a.end ≡ true → IsDropped files s a.state

  targets-early : (s t : State) (r : Result (Part Targets) Fault) (f : Part Targets → State) → DropsEarly s (or_stop t step.Targets r >>= λ p. Ok (f p))
  targets-early s t (Ok p) f = tt
  targets-early s t (Err fault) f = λ e. absurd (cc)

  snapshot-early : (s t : State) (r : Result (Part Snapshot) Fault) (f : Part Snapshot → State)
      → DropsEarly s ((or_stop t step.Snapshot r >>= λ p. Ok (f p)) >>= targets_step files now)
  snapshot-early s t (Ok p) f = targets-early s (f p) (listed_targets files now (f p)) _
  snapshot-early s t (Err fault) f = λ e. absurd (cc)

  timestamp-early : (s t : State) (r : Result (Option (Part Timestamp)) Fault) → IsDropped files s t
      → DropsEarly s ((or_stop t step.Timestamp r >>= λ n. Ok (with_newer t n)) >>= λ u. snapshot_step files now u >>= targets_step files now)
  timestamp-early s t (Ok n) d = snapshot-early s (with_newer t n) (listed_snapshot files now (with_newer t n)) _
  timestamp-early s t (Err fault) d = λ e. d

  rest-early : (s : State) (o : Result State Advanced) → Drops s o
      → DropsEarly s (o >>= λ t. timestamp_step files now t >>= λ u. snapshot_step files now u >>= targets_step files now)
  rest-early s (Ok t) d = timestamp-early s t (newer_timestamp files now t.root.reading t.timestamp) d
  rest-early s (Err a) d = λ e. d

  steps-early : (s : State) → DropsEarly s (steps files now s)
  unfolding steps
  steps-early s = rest-early s (root_step files now s) (root_step-drops s (followed files most_roots s) (followed-drops most_roots s))

  ended-early : (s : State) (o : Result State Advanced) → DropsEarly s o → is_early (ended o).end ≡ true → IsDropped files s (ended o).state
  ended-early s (Ok t) d e = absurd (cc)
  ended-early s (Err a) d e = d e

pub advanced-early : (files : Files) (now : Moment) (s : State) → is_early (advanced files now s).end ≡ true → IsDropped files s (advanced files now s).state
advanced-early files now s = ended-early files now s (steps files now s) (steps-early files now s)
