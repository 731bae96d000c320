-- The first root, which is trusted because it was handed in.
use Rattle.std.specs.Bool.{⊤}
use Rattle.std.specs.Io.KnownBytes.{Appends}
use Rattle.std.specs.Prelude.{◌≡◌, ◌⊎◌, ℕ, List, Bool, true, Result, Ok, Err}
use Rattle.failure.specs.declared.failure.Failure.{Failure}
use Rattle.failure.specs.declared.failure.Failure.TheVariants as failure
use Rattle.failure.specs.declared.failure.Failure.TheVariants.{Input, Memory, Output}
use Rattle.meta.specs.declared.fault.Fault.{Fault}
use Rattle.meta.specs.declared.fault.Fault.TheVariants as fault
use Rattle.report.specs.Lines.{end_text, root_text}
use Rattle.rolechain.specs.Text.{root_state}
pub use Rattle.rolechain.specs.Advance.{State}
use Rattle.rolechain.specs.declared.end.End.TheVariants.{Stopped}
use Rattle.rolechain.specs.declared.end.Step.TheVariants.{Root}
use Rattle.rolechain.specs.declared.fault.StateFault.TheVariants.{TooLong}
pub use Rattle.rolechain.specs.declared.fault.StateFault.{StateFault}
use Rattle.update.specs.Runs.{state_text}
pub use Rattle.update.specs.World.{World, IsUntouched}
use Rattle.update.specs.declared.first.First.{First}

-- the fault that is printed of a refused root: a root over its limit, or one without a reading
abbrev pub fault_of : StateFault → Fault
fault_of TooLong = fault.TooLong
fault_of other = fault.Malformed

-- what a root file that may be read comes to: its state, or why it is refused
pub record IsFirst (gives : List ℕ → Bool) (r : Result State StateFault) : Type 0 where
  pub bytes : List ℕ
  pub read : gives bytes ≡ true
  pub of_root : root_state bytes ≡ r

-- A root file that was read and is trusted: its state is stored, and more holds of it.
pub record Trusts (root state : List ℕ) (old new : World) (follows : State → Type 0)
    : Type 0 where
  pub bytes : List ℕ
  pub trusted : State
  pub read : old.gives root bytes ≡ true
  pub of_root : root_state bytes ≡ Ok trusted
  pub kept : new.keeps state (state_text trusted) ≡ true
  pub then : follows trusted

-- A root file that was read and is refused, with a fault of which more holds.
pub record Refuses (root : List ℕ) (old : World) (follows : StateFault → Type 0) : Type 0 where
  pub bytes : List ℕ
  pub fault : StateFault
  pub read : old.gives root bytes ≡ true
  pub of_root : root_state bytes ≡ Err fault
  pub then : follows fault

-- the root is trusted, and its version was printed
abbrev pub IsTrusted : List ℕ → List ℕ → World → World → Type 0
IsTrusted root state old new = Trusts root state old new
    (λ s. Appends old.printed new.printed (root_text s.root.reading.header.version))

-- the root is refused, and its fault was printed
abbrev pub IsRefused : List ℕ → World → World → Type 0
IsRefused root old new = Refuses root old
    (λ f. Appends old.printed new.printed (end_text (Stopped Root (fault_of f))))

-- nothing was stored, and nothing printed unless the root is refused; or the root's state was
-- stored
abbrev pub IsBrokenOff : List ℕ → List ℕ → World → World → Type 0
IsBrokenOff root state old new =
    ((new.keeps ≡ old.keeps) × ((new.printed ≡ old.printed) ⊎ Refuses root old (λ _. ⊤)))
    ⊎ Trusts root state old new (λ _. ⊤)

-- a file gives some bytes, or may be refused though it is there
abbrev pub MayBeThere : (List ℕ → Bool) → Bool → Type 0
MayBeThere gives refuses = ((bytes : List ℕ) × (gives bytes ≡ true)) ⊎ (refuses ≡ true)

-- why it fails: the state has to be new, and a file may be there; the root can't be read; the state
-- couldn't be stored, or it was, or the root is refused, and the line wasn't written
abbrev pub IsCauseOfFirst : First → World → World → Failure → Type 0
IsCauseOfFirst f old new failure.State = (f.is_new ≡ true)
    × MayBeThere (old.gives f.state.now) (old.refuses f.state.now)
IsCauseOfFirst f old new Input = old.refuses f.root.now ≡ true
IsCauseOfFirst f old new Output =
    (old.obstacles.fails f.state.now ≡ true)
    ⊎ (Refuses f.root.now old (λ _. ⊤) ⊎ Trusts f.root.now f.state.now old new (λ _. ⊤))
IsCauseOfFirst f old new Memory = ⊤
IsCauseOfFirst f old new _ = ⊥
