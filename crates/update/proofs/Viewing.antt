-- What is shown of a state, and why it isn't.
use Rattle.std.proofs.Common.{◌≡◌, ◌≢◌, ◌⊎◌, inl, inr, Result, Ok, Err, IfOk, OnOk, List, ℕ, Option, Some, None, sym, subst}
use Rattle.std.specs.Io.KnownBytes.{Appends}
use Rattle.failure.specs.declared.failure.Failure.{Failure}
use Rattle.failure.specs.declared.failure.Failure.TheVariants as failure
use Rattle.moment.specs.Moment.{Moment}
use Rattle.report.specs.Shown.{shown_status, shown_text}
use Rattle.update.specs.Causes.{IsNoState}
use Rattle.update.specs.Runs.{IsRead, State}
use Rattle.rolechain.specs.declared.end.Step.{Step}
use Rattle.update.specs.Shown.{IsBefore, IsCauseToShow, IsCauseToShowFile, IsFileShown, IsGivenOut, IsNoBefore, IsShown, file_of}
use Rattle.update.specs.World.{World}

-- the lines and the status of an answer
pub shown : {E : Type 0} (state : List ℕ) (before : Option (List ℕ)) (old new : World) (trusted : State) (moment : Option Moment) (r : Result ℕ E)
    → IsRead (old.gives state) trusted → IsBefore before moment → OnOk r (Appends old.printed new.printed (shown_text trusted))
    → IfOk r (λ status. status ≡ shown_status moment trusted) → IfOk r (IsShown state before old new)
shown state before old new trusted moment (Ok status) read is lines answered =
    record { trusted = trusted; moment = moment; read = read; of_before = is; lines = lines; answered = answered }
shown state before old new trusted moment (Err e) read is lines answered = tt

-- ---- causes

pub no_before : (state : List ℕ) (before : Option (List ℕ)) (old : World) (f : Failure) → IsNoBefore before f → IsCauseToShow state before old f
no_before state (Some text) old f h = subst (IsCauseToShow state (Some text) old) (sym h.0) (subst (IsNoBefore (Some text)) h.0 h)
no_before state None old f h = absurd h

pub no_state : (state : List ℕ) (before : Option (List ℕ)) (old : World) (moment : Option Moment) (f : Failure) → IsBefore before moment
    → (f ≡ failure.Memory) ⊎ (f ≡ failure.State) → (f ≢ failure.Memory → IsNoState (old.gives state) (old.refuses state)) → IsCauseToShow state before old f
no_state state before old moment f is (inl memory) none = subst (IsCauseToShow state before old) (sym memory) tt
no_state state before old moment f is (inr other) none =
    subst (IsCauseToShow state before old) (sym other) (record { moment = moment; of_before = is; no_state = none (λ memory. cc (other, memory)) })

pub no_output : (state : List ℕ) (before : Option (List ℕ)) (old : World) (f : Failure) → (f ≡ failure.Memory) ⊎ (f ≡ failure.Output) → IsCauseToShow state before old f
no_output state before old f (inl is) = subst (IsCauseToShow state before old) (sym is) tt
no_output state before old f (inr is) = subst (IsCauseToShow state before old) (sym is) tt

-- ---- one file

pub file_shown : {E : Type 0} (state : List ℕ) (step : Step) (old new : World) (trusted : State) (r : Result ℕ E) → IsRead (old.gives state) trusted
    → IfOk r (IsGivenOut (file_of step trusted) old.printed new.printed) → IfOk r (IsFileShown state step old new)
file_shown state step old new trusted (Ok status) read given = record { trusted = trusted; read = read; given = given }
file_shown state step old new trusted (Err e) read given = tt

pub file_no_state : (state : List ℕ) (old : World) (f : Failure) → (f ≡ failure.Memory) ⊎ (f ≡ failure.State)
    → (f ≢ failure.Memory → IsNoState (old.gives state) (old.refuses state)) → IsCauseToShowFile state old f
file_no_state state old f (inl memory) none = subst (IsCauseToShowFile state old) (sym memory) tt
file_no_state state old f (inr other) none = subst (IsCauseToShowFile state old) (sym other) (none (λ memory. cc (other, memory)))

pub file_no_output : (state : List ℕ) (old : World) (f : Failure) → (f ≡ failure.Memory) ⊎ (f ≡ failure.Output) → IsCauseToShowFile state old f
file_no_output state old f (inl is) = subst (IsCauseToShowFile state old) (sym is) tt
file_no_output state old f (inr is) = subst (IsCauseToShowFile state old) (sym is) tt

-- all of these
pub ruleset viewing = (shown, no_before, no_state, no_output, file_shown, file_no_state, file_no_output)
