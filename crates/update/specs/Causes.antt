-- Why a run fails.
use Rattle.std.specs.Bool.{⊤}
use Rattle.std.specs.Prelude.{◌≡◌, ◌⊎◌, ℕ, List, Bool, true, Option, Err, ◌∷◌}
use Rattle.failure.specs.declared.failure.Failure.{Failure}
use Rattle.failure.specs.declared.failure.Failure.TheVariants.{Now, State, Folder, Clock, Output, Memory}
use Rattle.folder.specs.Folders.{HasFailed}
use Rattle.rolechain.specs.Text.{state_of}
use Rattle.rolechain.specs.declared.fault.StateFault.{StateFault}
use Rattle.update.specs.Moments.{IsMomentOf, IsNoMoment, Moment}
use Rattle.system.specs.Blocked.{Obstacles}
use Rattle.update.specs.Runs.{Begins, IsStored, given_by, moment_text}
pub use Rattle.update.specs.World.{Mirror, World}
use Rattle.update.specs.declared.start.Settings.{Settings}
use Rattle.update.specs.declared.start.Start as program
use Rattle.update.specs.declared.start.Terms.{Terms}
use Rattle.update.specs.declared.start.Wanted.{Wanted}

-- # What can be at fault.

-- a call of one of the two folders failed
abbrev pub HaveFailed : Mirror → Mirror → Type 0
HaveFailed old new = HasFailed old.metadata new.metadata ⊎ HasFailed old.targets new.targets

-- a call of a folder of one of the repositories failed
abbrev pub SomeFailed : List Mirror → List Mirror → Type 0
SomeFailed (m ∷ ms) (n ∷ ns) = HaveFailed m n ⊎ SomeFailed ms ns
SomeFailed _ _ = ⊥

-- the file can't be read, or it gives a text that is no state
abbrev pub IsNoState : (List ℕ → Bool) → Bool → Type 0
IsNoState gives is_refused = (is_refused ≡ true)
    ⊎ ((text : List ℕ) × (fault : StateFault) × ((gives text ≡ true) × (state_of text ≡ Err fault)))

-- the moment was read, and the state can't be
pub record HasNoState (text : Option (List ℕ)) (shows : Option ℕ → Bool) (gives : List ℕ → Bool)
    (is_refused : Bool) : Type 0 where
  pub moment : Moment
  pub of_moment : IsMomentOf shows text moment
  pub no_state : IsNoState gives is_refused

-- # The cause of each failure. Any run may run out of memory.

-- of reading the moment, and then the state
abbrev pub IsCauseToBegin : Option (List ℕ) → (Option ℕ → Bool) → (List ℕ → Bool) → Bool
    → Failure → Type 0
IsCauseToBegin text shows gives is_refused Now = IsNoMoment shows text Now
IsCauseToBegin text shows gives is_refused Clock = IsNoMoment shows text Clock
IsCauseToBegin text shows gives is_refused State = HasNoState text shows gives is_refused
IsCauseToBegin text shows gives is_refused Memory = ⊤
IsCauseToBegin text shows gives is_refused _ = ⊥

-- of reading folders
abbrev pub IsCauseToRead : List Mirror → List Mirror → Failure → Type 0
IsCauseToRead old new Folder = SomeFailed old new
IsCauseToRead old new Memory = ⊤
IsCauseToRead old new _ = ⊥

-- the same of what the words name
abbrev pub IsCauseToStart : Settings → (Option ℕ → Bool) → (List ℕ → List ℕ → Bool)
    → (List ℕ → Bool) → Failure → Type 0
IsCauseToStart settings shows gives refuses f = IsCauseToBegin (moment_text settings) shows
    (gives settings.state.now) (refuses settings.state.now) f

-- of a run from a start on these folders: the state couldn't be stored, or it was, and the lines
-- weren't written
abbrev pub IsCauseBy : program.Start → Wanted → Obstacles → List Mirror → World → Failure → Type 0
IsCauseBy s wanted obstacles mirrors new Output =
    (obstacles.fails s.state.now ≡ true)
    ⊎ IsStored mirrors s wanted (new.keeps s.state.now) (λ _ _ _ _. ⊤)
IsCauseBy s wanted obstacles mirrors new f = IsCauseToRead mirrors new.mirrors f

abbrev pub IsCauseFrom : program.Start → Wanted → World → World → Failure → Type 0
IsCauseFrom s wanted old new f = IsCauseBy s wanted old.obstacles old.mirrors new f

-- of reading what the words name, or from such a start
abbrev pub IsCauseOf : Settings → World → (program.Start → Type 0) → Failure → Type 0
IsCauseOf settings old from f =
    IsCauseToStart settings old.shows (given_by settings.locking old.gives_locked old.gives)
    old.refuses f
    ⊎ Begins settings old from

-- of a run from the state and the moment that the words name, which are read first
abbrev pub IsCause : Terms → World → World → Failure → Type 0
IsCause terms old new f =
    IsCauseOf terms.settings old (λ s. IsCauseFrom s terms.wanted old new f) f
