-- The trusted state, shown.
use Rattle.std.specs.Bool.{⊤}
use Rattle.std.specs.Io.KnownBytes.{Appends}
use Rattle.std.specs.Prelude.{◌≡◌, ℕ, List, Option, Some, None, option_map}
use Rattle.failure.specs.declared.failure.Failure.{Failure}
use Rattle.failure.specs.declared.failure.Failure.TheVariants.{Now, State, Output, Memory}
use Rattle.report.specs.Shown.{shown_status, shown_text}
use Rattle.rolechain.specs.Advance as chain
use Rattle.rolechain.specs.declared.end.Step.{Step}
use Rattle.rolechain.specs.declared.end.Step.TheVariants.{Root, Timestamp, Snapshot, Targets}
use Rattle.update.specs.Causes.{IsNoState}
use Rattle.update.specs.Moments.{Moment, moment_of}
use Rattle.update.specs.Runs.{IsRead}
pub use Rattle.update.specs.World.{World}

-- the moment that a text spells, or none without a text
abbrev pub IsBefore : Option (List ℕ) → Option Moment → Type 0
IsBefore (Some text) (Some m) = moment_of text ≡ Some m
IsBefore (Some text) None = ⊥
IsBefore None m = m ≡ None

-- a text that spells no moment is the failure `Now`
abbrev pub IsNoBefore : Option (List ℕ) → Failure → Type 0
IsNoBefore (Some text) f = (f ≡ Now) × (moment_of text ≡ None)
IsNoBefore None f = ⊥

-- The moment and a state were read, the state's lines were printed, and the status is the state's.
pub record IsShown (state : List ℕ) (before : Option (List ℕ)) (old new : World) (status : ℕ)
    : Type 0 where
  pub trusted : chain.State
  pub moment : Option Moment
  pub read : IsRead (old.gives state) trusted
  pub of_before : IsBefore before moment
  pub lines : Appends old.printed new.printed (shown_text trusted)
  pub answered : status ≡ shown_status moment trusted

-- the moment was read, if there is a text, and the state can't be
pub record HasNone (state : List ℕ) (before : Option (List ℕ)) (old : World) : Type 0 where
  pub moment : Option Moment
  pub of_before : IsBefore before moment
  pub no_state : IsNoState (old.gives state) (old.refuses state)

-- why it fails
abbrev pub IsCauseToShow : List ℕ → Option (List ℕ) → World → Failure → Type 0
IsCauseToShow state before old Now = IsNoBefore before Now
IsCauseToShow state before old State = HasNone state before old
IsCauseToShow state before old Output = ⊤
IsCauseToShow state before old Memory = ⊤
IsCauseToShow state before old _ = ⊥

-- # One trusted file, as it is.

-- the bytes of the file of that step, if it is trusted
abbrev pub file_of : Step → chain.State → Option (List ℕ)
file_of Root s = Some s.root.bytes
file_of Timestamp s = option_map (λ p. p.bytes) s.timestamp
file_of Snapshot s = option_map (λ p. p.bytes) s.snapshot
file_of Targets s = option_map (λ p. p.bytes) s.targets

-- the bytes were printed, with status 0, or there are none, with status 1
abbrev pub IsGivenOut : Option (List ℕ) → Option (List ℕ) → Option (List ℕ) → ℕ → Type 0
IsGivenOut (Some bytes) old new status = (status ≡ 0) × Appends old new bytes
IsGivenOut None old new status = (status ≡ 1) × (new ≡ old)

-- A state was read, and its file of that step was printed, if it is trusted.
pub record IsFileShown (state : List ℕ) (step : Step) (old new : World) (status : ℕ)
    : Type 0 where
  pub trusted : chain.State
  pub read : IsRead (old.gives state) trusted
  pub given : IsGivenOut (file_of step trusted) old.printed new.printed status

-- why it fails
abbrev pub IsCauseToShowFile : List ℕ → World → Failure → Type 0
IsCauseToShowFile state old State = IsNoState (old.gives state) (old.refuses state)
IsCauseToShowFile state old Output = ⊤
IsCauseToShowFile state old Memory = ⊤
IsCauseToShowFile state old _ = ⊥
