-- A stop of a cycle has a reason, and the reason is of the stop's fault.
use Rattle.std.proofs.Common.{◌≡◌, ℕ, zero, suc, Bool, true, false, cond, Option, Some, None, Result, Ok, Err, refl, ap, sym, subst, ◌∙◌}
use Rattle.std.specs.Prelude.{⊤, option_map}
use Rattle.cjson.specs.Document.{◌>>=◌, refuse_if}
use Rattle.moment.specs.Moment.{Moment}
use Rattle.meta.specs.Metadata.{Root}
use Rattle.meta.specs.Content.{Part}
use Rattle.meta.specs.declared.header.Header.{Header}
use Rattle.meta.specs.declared.fault.Fault.{Fault}
use Rattle.meta.specs.declared.fault.Fault.TheVariants as fault
use Rattle.examine.specs.Checks.{Files, is_expired, expiry_check}
use Rattle.rolechain.specs.Advance.{State, Advanced, or_stop, with_root, with_newer, with_snapshot, with_targets, successor, followed, unexpired, root_step, newer_timestamp, timestamp_step, listed_snapshot, snapshot_step, listed_targets, targets_step, steps, ended, advanced}
use Rattle.rolechain.specs.declared.end.Step.{Step}
use Rattle.rolechain.specs.declared.end.Step.TheVariants as step
use Rattle.rolechain.specs.declared.end.End.{End}
use Rattle.rolechain.specs.declared.end.End.TheVariants.{Ready, Stopped}
use Rattle.rolechain.proofs.Chain.{onward}
use Rattle.cjson.specs.Form.{Data}
use Rattle.reasons.specs.Reasons.{plain, fault_of, reason_in, trusted_check}
use Rattle.reasons.specs.Stops as why
use Rattle.reasons.specs.Stops.{is_expiry, expiry_first, root_keys}
use Rattle.reasons.specs.declared.reason.Reason.{Reason}
use Rattle.reasons.specs.declared.reason.Reason.TheVariants as reason
use Rattle.reasons.proofs.Plain.{then-same, successor-plain, timestamp-stop-plain, snapshot-stop-plain, targets-stop-plain}

-- ---- the roots

expired-or : (b : Bool) (expires now : Moment) (rest : Result ⊤ Reason) → plain rest ≡ Err fault.Expired → plain (refuse_if b (reason.TrustedExpired expires now) >>= λ x. rest) ≡ Err fault.Expired
expired-or true expires now rest e = refl
expired-or false expires now rest e = e

-- a successor's fault, whether the last root is expired or not
refused-root : (f : Fault) (h : Header) (now : Moment) (rest : Result ⊤ Reason) → plain rest ≡ Err f → plain (expiry_first f h now >>= λ x. rest) ≡ Err f
refused-root fault.NotListed h now rest e = e
refused-root fault.Missing h now rest e = e
refused-root fault.TooLong h now rest e = e
refused-root fault.LengthWrong h now rest e = e
refused-root fault.HashWrong h now rest e = e
refused-root fault.NoKnownHash h now rest e = e
refused-root fault.Malformed h now rest e = e
refused-root fault.Unsigned h now rest e = e
refused-root fault.VersionWrong h now rest e = e
refused-root fault.Rollback h now rest e = e
refused-root fault.Expired h now rest e = expired-or (is_expired h now) h.expires now rest e

-- the last root is expired
expired-root : (b : Bool) (expires now : Moment) (f : Fault) (rest : Result ⊤ Reason) → refuse_if b fault.Expired ≡ Err f
    → plain (cond (is_expiry f) (refuse_if b (reason.TrustedExpired expires now)) (Ok tt) >>= λ x. rest) ≡ Err f
expired-root true expires now f rest e =
    let same : fault.Expired ≡ f = cc in
    subst (λ g. plain (cond (is_expiry g) (refuse_if true (reason.TrustedExpired expires now)) (Ok tt) >>= λ x. rest) ≡ Err g) same refl
expired-root false expires now f rest e = absurd (cc)

module _ (files : Files) (now : Moment) where
  -- the stop of the step has a reason, and it is of this fault
  abbrev pub Told : State → End → Type 0
  Told s Ready = Unit {0}
  Told s (Stopped at f) = plain (why.stop files now s at f) ≡ Err f

  abbrev pub Tells : Result State Advanced → Type 0
  Tells (Ok s) = Unit {0}
  Tells (Err a) = Told a.state a.end

  tells-next : (r : Result State Advanced) (f : State → Result State Advanced) → Tells r → ((s : State) → Tells (f s)) → Tells (r >>= f)
  tells-next (Ok s) f h more = more s
  tells-next (Err a) f h more = h

  tells-checked : {A : Type 0} (s : State) (at : Step) (x : Result A Fault) (f : A → Result State Advanced)
      → ((e : Fault) → x ≡ Err e → Told s (Stopped at e)) → ((v : A) → Tells (f v)) → Tells (or_stop s at x >>= f)
  tells-checked s at (Ok v) f stop more = more v
  tells-checked s at (Err e) f stop more = stop e refl

  -- ---- each step's stop

  root-refused : (s : State) (e : Fault) → successor files s.root.reading ≡ Err e → Told s (Stopped step.Root e)
  root-refused s e is =
      refused-root e s.root.reading.header now (why.successor_check files (root_keys s.root) s.root.reading >>= λ next. Ok tt)
      (then-same _ _ _ (λ next. Ok tt) (successor-plain files (root_keys s.root) s.root.reading) (λ x. refl) ∙ ap (λ r. r >>= λ next. Ok tt) is)

  root-expired : (s : State) (e : Fault) → expiry_check s.root.reading.header now ≡ Err e → Told s (Stopped step.Root e)
  root-expired s e is = expired-root (is_expired s.root.reading.header now) s.root.reading.header.expires now e _ is

  timestamp-refused : (s : State) (e : Fault) → newer_timestamp files now s.root.reading s.timestamp ≡ Err e → Told s (Stopped step.Timestamp e)
  timestamp-refused s e is = timestamp-stop-plain files now (root_keys s.root) s ∙ ap (λ r. r >>= λ n. Ok tt) is

  snapshot-refused : (s : State) (e : Fault) → listed_snapshot files now s ≡ Err e → Told s (Stopped step.Snapshot e)
  snapshot-refused s e is = snapshot-stop-plain files now (root_keys s.root) s ∙ ap (λ r. r >>= λ n. Ok tt) is

  targets-refused : (s : State) (e : Fault) → listed_targets files now s ≡ Err e → Told s (Stopped step.Targets e)
  targets-refused s e is = targets-stop-plain files now (root_keys s.root) s ∙ ap (λ r. r >>= λ n. Ok tt) is

  -- ---- the whole

  onward-tells : (n : ℕ) (s : State) (o : Option (Part Root)) → ((t : State) → Tells (followed files n t)) → Tells (onward files now n s o)
  onward-tells n s None told = tt
  onward-tells n s (Some next) told = told (with_root s next)

  followed-tells : (most : ℕ) (s : State) → Tells (followed files most s)
  unfolding followed
  followed-tells zero s = tt
  followed-tells (suc most) s = tells-checked s step.Root (successor files s.root.reading) _ (root-refused s) (λ o. onward-tells most s o (followed-tells most))

  root_step-tells : (s : State) → Tells (root_step files now s)
  root_step-tells s = tells-next (followed files 256 s) (unexpired files now) (followed-tells 256 s)
      (λ t. tells-checked t step.Root (expiry_check t.root.reading.header now) _ (root-expired t) (λ x. tt))

  steps-tell : (s : State) → Tells (steps files now s)
  unfolding steps
  steps-tell s =
      tells-next (root_step files now s) _ (root_step-tells s) (λ r.
      tells-next (timestamp_step files now r) _ (tells-checked r step.Timestamp (newer_timestamp files now r.root.reading r.timestamp) _ (timestamp-refused r) (λ n. tt)) (λ t.
      tells-next (snapshot_step files now t) _ (tells-checked t step.Snapshot (listed_snapshot files now t) _ (snapshot-refused t) (λ p. tt)) (λ n.
      tells-checked n step.Targets (listed_targets files now n) _ (targets-refused n) (λ p. tt))))

  ended-told : (r : Result State Advanced) → Tells r → (s : State) (at : Step) (f : Fault) → ended r ≡ record { state = s; end = Stopped at f } → plain (why.stop files now s at f) ≡ Err f
  ended-told (Ok t) h s at f e =
      let never : Ready ≡ Stopped at f = ap (λ (a : Advanced). a.end) e in
      absurd (cc)
  ended-told (Err a) h s at f e = subst (λ (a : Advanced). Told a.state a.end) e h

reason-of : (r : Result ⊤ Reason) (f : Fault) → plain r ≡ Err f → option_map fault_of (reason_in r) ≡ Some f
reason-of (Ok x) f e = absurd (cc)
reason-of (Err w) f e = cc

-- the stop of a cycle has a reason of its fault
pub stop_told : (files : Files) (now : Moment) (from s : State) (at : Step) (f : Fault) → advanced files now from ≡ record { state = s; end = Stopped at f }
    → option_map fault_of (reason_in (why.stop files now s at f)) ≡ Some f
stop_told files now from s at f e =
    reason-of (why.stop files now s at f) f (ended-told files now (steps files now from) (steps-tell files now from) s at f e)
