-- One verification after another, each from the state of the one before.
use Rattle.std.specs.Bool.{⊤}
use Rattle.std.specs.Io.KnownBytes.{Appends}
use Rattle.std.specs.Prelude.{◌≡◌, ◌⊎◌, ℕ, List, Bool, true, Option, String, map, string_bytes, [], ◌∷◌}
use Rattle.std.specs.declared.alloc.Global.{Global}
use Rattle.failure.specs.declared.failure.Failure.{Failure}
use Rattle.failure.specs.declared.failure.Failure.TheVariants.{Output}
use Rattle.folder.specs.Folders.{Giving}
use Rattle.lookups.specs.Lookups.{files_read}
use Rattle.report.specs.Lines.{last_status, cycles_text}
use Rattle.report.specs.declared.told.Told.{Told}
use Rattle.system.specs.Blocked.{Obstacles}
use Rattle.update.specs.Causes.{IsCauseOf, IsCauseToRead}
use Rattle.update.specs.Runs.{Begins, IsOutcomeOn, IsUntouched, Mirror, Outcome, Request, State, World, start_of, state_text, why_of}
use Rattle.replay.specs.declared.replaying.Cycles.{Cycles}
use Rattle.update.specs.declared.start.Detail.{Detail}
use Rattle.update.specs.declared.start.Start as program

-- what the first cycle begins with
abbrev pub first_of : program.Start → List (String Global) → Request
first_of s wanted = start_of s (map string_bytes wanted)

-- the same request from another state
abbrev pub from_state : Request → State → Request
from_state s trusted = record s { trusted = trusted }

-- what the next cycle begins with
abbrev pub after : Request → Outcome → Request
after s o = from_state s o.trusted

-- the state after the cycles
abbrev pub last_state : Request → List Told → State
last_state s [] = s.trusted
last_state s (t ∷ ts) = last_state (after s t.outcome) ts

-- the folders of a repository
abbrev pub mirror_of : Giving → Giving → Mirror
mirror_of metadata targets = record { metadata = metadata; targets = targets }

-- an outcome on the folders of a repository, and the lines that say why, by what was read of them
pub record IsToldOn (d : Detail) (m : Mirror) (s : Request) (t : Told) : Type 0 where
  pub of_workflow : IsOutcomeOn m s t.outcome
  pub why : t.why ≡ why_of d s (files_read of_workflow.metadata) of_workflow.targets t.outcome

-- what is told of the cycles, each on a repository of its own and from the state of the one before
abbrev pub AreToldOn : Detail → List Mirror → Request → List Told → Type 0
AreToldOn d [] s [] = Unit {0}
AreToldOn d [] s (t ∷ ts) = ⊥
AreToldOn d (m ∷ ms) s [] = ⊥
AreToldOn d (m ∷ ms) s (t ∷ ts) = IsToldOn d m s t × AreToldOn d ms (after s t.outcome) ts

-- the lines of the cycles were printed, and the status is that of the last one
pub record ArePrinted (ts : List Told) (wanted : List (List ℕ)) (status : ℕ)
    (old new : Option (List ℕ)) : Type 0 where
  pub lines : Appends old new (cycles_text wanted ts)
  pub answered : status ≡ last_status ts

-- what is told of the cycles: the state after them is stored, and more holds of it
pub record AreStored (d : Detail) (mirrors : List Mirror) (start : Request)
    (keeps : List ℕ → Bool) (follows : List Told → Type 0) : Type 0 where
  pub told : List Told
  pub of_cycles : AreToldOn d mirrors start told
  pub kept : keeps (state_text (last_state start told)) ≡ true
  pub then : follows told

-- # The cycles on the repositories, in order, from the state and the moment that the words name.

-- the state after them is stored, and more holds of what is told of them
abbrev pub CyclesStore : Cycles → World → World → (List Told → Type 0) → Type 0
CyclesStore c old new follows = Begins c.settings old (λ s.
    AreStored s.detail old.mirrors (first_of s c.wanted.items) (new.keeps s.state.now) follows)

-- their lines were printed too, and this is the status
abbrev pub IsReplayed : Cycles → World → World → ℕ → Type 0
IsReplayed c old new status = CyclesStore c old new
    (λ ts. ArePrinted ts (map string_bytes c.wanted.items) status old.printed new.printed)

-- nothing was stored or printed, or the last state was stored
abbrev pub IsUntouchedOrCycled : Cycles → World → World → Type 0
IsUntouchedOrCycled c old new = IsUntouched old new ⊎ CyclesStore c old new (λ _. ⊤)

-- # Why it fails.

-- from a start on these folders: the state couldn't be stored, or it was, and the lines weren't
-- written
abbrev pub IsCauseBy : Cycles → program.Start → Obstacles → List Mirror → World → Failure → Type 0
IsCauseBy c s obstacles mirrors new Output =
    (obstacles.fails s.state.now ≡ true)
    ⊎ AreStored s.detail mirrors (first_of s c.wanted.items) (new.keeps s.state.now) (λ _. ⊤)
IsCauseBy c s obstacles mirrors new f = IsCauseToRead mirrors new.mirrors f

-- of what the words name
abbrev pub IsCause : Cycles → World → World → Failure → Type 0
IsCause c old new f =
    IsCauseOf c.settings old (λ s. IsCauseBy c s old.obstacles old.mirrors new f) f
