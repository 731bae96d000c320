-- Who signed a metadata file, as a ceremony prints it.
use Rattle.std.specs.Prelude.{◌≡◌, ◌⊎◌, ⊤, ℕ, List, Bool, true, Option, Some, None, Result, Ok, Err, if◌then◌else◌}
use Rattle.cjson.specs.Document.{Document, document as document_of_file}
use Rattle.cjson.specs.Form.{◌>>=◌, ok}
use Rattle.failure.specs.declared.failure.Failure.{Failure}
use Rattle.failure.specs.declared.failure.Failure.TheVariants.{Input, Output, Memory}
use Rattle.signing.specs.declared.signing.Signing.{Signing}
use Rattle.std.specs.Io.KnownBytes.{Appends}
use Rattle.ceremony.specs.Required.{IsSigning, Required, required}
use Rattle.ceremony.specs.declared.lines.Refusal.{Refusal}
use Rattle.ceremony.specs.declared.lines.Refusal.TheVariants as refusal
use Rattle.ceremony.specs.declared.required.Role.{Role}
use Rattle.ceremony.specs.declared.signers.By.{By}
use Rattle.whys.specs.Signed.{signing_text}

-- the exit status
abbrev pub met_status : Bool → ℕ
met_status is_met = if is_met then 0 else 1

-- the keys that must sign in the role, of the file that lists them, if it is one
abbrev pub required_in : Role → List ℕ → Option Required
required_in role listing = do
  by ← ok (document_of_file listing)
  required role by.signed

-- both files may be read as such
pub record AreRead (file listing : List ℕ) (role : Role) (s : Signing) : Type 0 where
  pub document : Document
  pub required : Required
  pub read : document_of_file file ≡ Ok document
  pub listed : required_in role listing ≡ Some required
  pub signing : IsSigning document required s

-- why it can't be said: the file is malformed, or the second one, or it has no such role
abbrev pub AreRefused : List ℕ → List ℕ → Role → Refusal → Type 0
AreRefused file listing role (refusal.File f) = document_of_file file ≡ Err f
AreRefused file listing role refusal.Role = required_in role listing ≡ None
AreRefused file listing role _ = ⊥

-- the status and the lines of who signed, by the keys of a file
abbrev pub AreTold : By → ℕ → Option (List ℕ) → Option (List ℕ) → Signing → Type 0
AreTold by status old new s =
    (status ≡ met_status s.is_met) × Appends old new (signing_text by.path.now s)

-- what the two files come to
abbrev pub IsAnswer : List ℕ → List ℕ → Role → Result Signing Refusal → Type 0
IsAnswer file listing role (Ok s) = AreRead file listing role s
IsAnswer file listing role (Err r) = AreRefused file listing role r

-- Of two files that may be read, it is said who signed, and more holds of that.
pub record IsTold (gives by : List ℕ → Bool) (role : Role) (follows : Signing → Type 0)
    : Type 0 where
  pub file : List ℕ
  pub listing : List ℕ
  pub signing : Signing
  pub read : gives file ≡ true
  pub read_listing : by listing ≡ true
  pub said : AreRead file listing role signing
  pub more : follows signing

-- Of two files that may be read, it can't be said, for a reason of which more holds.
pub record IsUntold (gives by : List ℕ → Bool) (role : Role) (follows : Refusal → Type 0)
    : Type 0 where
  pub file : List ℕ
  pub listing : List ℕ
  pub refusal : Refusal
  pub read : gives file ≡ true
  pub read_listing : by listing ≡ true
  pub refused : AreRefused file listing role refusal
  pub more : follows refusal

-- Why the step fails: one of the two files can't be read; or the lines of who signed, or that of
-- the refusal, can't be written.
abbrev pub IsCause : (gives by : List ℕ → Bool) (refused by_refused : Bool) → Role → Failure
    → Type 0
IsCause gives by refused by_refused role Input = (refused ≡ true) ⊎ (by_refused ≡ true)
IsCause gives by refused by_refused role Output =
    IsTold gives by role (λ _. ⊤) ⊎ IsUntold gives by role (λ _. ⊤)
IsCause gives by refused by_refused role Memory = ⊤
IsCause gives by refused by_refused role _ = ⊥
