-- The metadata file to which a ceremony attaches a signature.
use Rattle.std.specs.Prelude.{◌≡◌, ◌⊎◌, ⊤, ℕ, List, Bool, true, Option, Some, None, Result, Ok, Err}
use Rattle.keys.specs.declared.key.Key.{Key}
use Rattle.failure.specs.declared.failure.Failure.{Failure}
use Rattle.failure.specs.declared.failure.Failure.TheVariants.{Input, Output, Memory}
use Rattle.signing.specs.Attached.{IsAttached, IsInvalid, signature_in}
use Rattle.signing.specs.Drafts.{draft}
use Rattle.signing.specs.NewKeys.{key_in}
use Rattle.signing.specs.declared.attaching.Attached.{Attached}
use Rattle.signing.specs.declared.fault.AttachFault.TheVariants as fault
use Rattle.ceremony.specs.declared.files.AttachPaths.{AttachPaths}
use Rattle.ceremony.specs.declared.files.Entered.{Entered}
use Rattle.ceremony.specs.declared.lines.Refusal.{Refusal}
use Rattle.ceremony.specs.declared.lines.Refusal.TheVariants.{File, KeyFile, Signature}

-- the key object has a usable key, and its signature was attached
pub record IsEntered (file key_file sig : List ℕ) (key : Key) (a : Attached) : Type 0 where
  pub usable : key_in key_file ≡ Some key
  pub attached : IsAttached file key (signature_in key.public sig) a

-- why it wasn't attached
abbrev pub IsNotEntered : List ℕ → List ℕ → List ℕ → Refusal → Type 0
IsNotEntered file key_file sig KeyFile = key_in key_file ≡ None
IsNotEntered file key_file sig (File f) = draft file ≡ Err f
IsNotEntered file key_file sig (Signature why) =
    (key : Key) × (key_in key_file ≡ Some key)
    × IsInvalid file key (signature_in key.public sig) (fault.Signature why)
IsNotEntered file key_file sig _ = ⊥

-- what the three files come to
abbrev pub IsAnswer : List ℕ → List ℕ → List ℕ → Result Entered Refusal → Type 0
IsAnswer file key_file sig (Ok e) = IsEntered file key_file sig e.key e.attached
IsAnswer file key_file sig (Err r) = IsNotEntered file key_file sig r

-- The signature was attached to files that may be read. The new file is stored, and more holds of
-- the key and the file.
pub record IsStored (gives : List ℕ → List ℕ → Bool) (paths : AttachPaths)
    (keeps : List ℕ → Bool) (follows : Key → Attached → Type 0) : Type 0 where
  pub file : List ℕ
  pub key_file : List ℕ
  pub sig : List ℕ
  pub key : Key
  pub attached : Attached
  pub read : gives paths.file.now file ≡ true
  pub read_key : gives paths.key.now key_file ≡ true
  pub read_sig : gives paths.sig.now sig ≡ true
  pub entered : IsEntered file key_file sig key attached
  pub kept : keeps attached.file.items ≡ true
  pub more : follows key attached

-- It wasn't attached to files that may be read, for a reason of which more holds.
pub record IsRefused (gives : List ℕ → List ℕ → Bool) (paths : AttachPaths)
    (follows : Refusal → Type 0) : Type 0 where
  pub file : List ℕ
  pub key_file : List ℕ
  pub sig : List ℕ
  pub refusal : Refusal
  pub read : gives paths.file.now file ≡ true
  pub read_key : gives paths.key.now key_file ≡ true
  pub read_sig : gives paths.sig.now sig ≡ true
  pub refused : IsNotEntered file key_file sig refusal
  pub more : follows refusal

-- one of the three files can't be read
abbrev pub SomeRefused : (List ℕ → Bool) → AttachPaths → Type 0
SomeRefused refuses paths = (refuses paths.file.now ≡ true)
    ⊎ ((refuses paths.key.now ≡ true) ⊎ (refuses paths.sig.now ≡ true))

-- Why the step fails: one of the files can't be read; or the new one can't be stored, or the line of
-- the stored one or of the refusal can't be written.
abbrev pub IsCause : (gives : List ℕ → List ℕ → Bool) (refuses fails : List ℕ → Bool) → AttachPaths
    → (List ℕ → Bool) → Failure → Type 0
IsCause gives refuses fails paths keeps Input = SomeRefused refuses paths
IsCause gives refuses fails paths keeps Output = (fails paths.to.now ≡ true)
    ⊎ (IsStored gives paths keeps (λ _ _. ⊤) ⊎ IsRefused gives paths (λ _. ⊤))
IsCause gives refuses fails paths keeps Memory = ⊤
IsCause gives refuses fails paths keeps _ = ⊥
