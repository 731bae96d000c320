-- The moment of a verification.
use Rattle.std.specs.Prelude.{◌≡◌, ◌<◌, ◌⊎◌, ℕ, ◌/◌, ◌%◌, pos, List, Bool, true, Option, Some, None}
pub use Rattle.moment.specs.Moment.{moment_of, Moment}
use Rattle.failure.specs.declared.failure.Failure.{Failure}
use Rattle.failure.specs.declared.failure.Failure.TheVariants as failure

-- so many seconds after 1970-01-01
pub record IsAfter (seconds : ℕ) (m : Moment) : Type 0 where
  pub day : m.day ≡ pos (seconds / 86400)
  pub second : m.second ≡ seconds % 86400

-- the moment that the text spells, or without a text one that the clock may show
abbrev pub IsMomentOf : (Option ℕ → Bool) → Option (List ℕ) → Moment → Type 0
IsMomentOf shows (Some text) m = moment_of text ≡ Some m
IsMomentOf shows None m = (seconds : ℕ) × ((shows (Some seconds) ≡ true) × IsAfter seconds m)

-- the clock may show nothing, or a second after the year 9999
abbrev pub HasNoClock : (Option ℕ → Bool) → Type 0
HasNoClock shows = (shows None ≡ true)
    ⊎ ((seconds : ℕ) × ((shows (Some seconds) ≡ true) × (2932896 < seconds / 86400)))

-- the failure where no moment is read: `Now` of a text that spells none, and without a text
-- `Clock`, of a clock that has none
abbrev pub IsNoMoment : (Option ℕ → Bool) → Option (List ℕ) → Failure → Type 0
IsNoMoment shows (Some text) f = (f ≡ failure.Now) × (moment_of text ≡ None)
IsNoMoment shows None f = (f ≡ failure.Clock) × HasNoClock shows
