-- The text of a metadata file that a ceremony prints.
use Rattle.std.specs.Prelude.{◌≡◌, ◌≢◌, ◌⊎◌, ℕ, List, Bool, true, Ok, Err, ⊤}
use Rattle.cjson.specs.declared.fault.DocFault.{DocFault}
use Rattle.cjson.specs.declared.fault.DocFault.TheVariants.{NoMemory}
use Rattle.failure.specs.declared.failure.Failure.{Failure}
use Rattle.failure.specs.declared.failure.Failure.TheVariants.{Input, Output, Memory}
use Rattle.signing.specs.Drafts.{signed_text}

-- A file that may be read has a text that signatures cover, of which more holds.
pub record IsText (gives : List ℕ → Bool) (follows : List ℕ → Type 0) : Type 0 where
  pub file : List ℕ
  pub text : List ℕ
  pub read : gives file ≡ true
  pub signed : signed_text file ≡ Ok text
  pub more : follows text

-- A file that may be read has none, with a fault of which more holds.
pub record IsNoText (gives : List ℕ → Bool) (follows : DocFault → Type 0) : Type 0 where
  pub file : List ℕ
  pub fault : DocFault
  pub read : gives file ≡ true
  pub memory : fault ≢ NoMemory
  pub refused : signed_text file ≡ Err fault
  pub more : follows fault

-- Why the step fails: the file can't be read; or its text or the fault can't be written.
abbrev pub IsCause : (List ℕ → Bool) → Bool → Failure → Type 0
IsCause gives refused Input = refused ≡ true
IsCause gives refused Output = IsText gives (λ _. ⊤) ⊎ IsNoText gives (λ _. ⊤)
IsCause gives refused Memory = ⊤
IsCause gives refused _ = ⊥
