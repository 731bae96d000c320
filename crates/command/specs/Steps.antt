-- The steps of a signing ceremony on the file system, of which any file may give any bytes.
use Rattle.std.specs.Prelude.{◌≡◌, ◌≢◌, ℕ, List, Bool, true, Option}
use Rattle.std.specs.Io.KnownBytes.{Appends}
use Rattle.ceremony.specs.Entered.{IsRefused, IsStored}
use Rattle.ceremony.specs.KeyFiles.{IsMade, IsNoKey}
use Rattle.ceremony.specs.Printed.{entry_text, key_text, refusal_status, refusal_text}
use Rattle.ceremony.specs.SignedBy.{AreTold, IsTold, IsUntold}
use Rattle.ceremony.specs.Texts.{IsText}
use Rattle.ceremony.specs.declared.files.AttachPaths.{AttachPaths}
use Rattle.ceremony.specs.declared.lines.Refusal.TheVariants as refusal
use Rattle.ceremony.specs.declared.signers.By.{By}

-- what was stored before and afterwards, of which more holds
pub record OfStores (follows : (old new : List ℕ → List ℕ → Bool) → Type 0) : Type 0 where
  pub before : List ℕ → List ℕ → Bool
  pub afterwards : List ℕ → List ℕ → Bool
  pub then : follows before afterwards

-- a key object is stored with status 0, or with status 1 nothing is
abbrev pub IsMaking : List ℕ → List ℕ → Option (List ℕ) → Option (List ℕ) → ℕ → Type 0
IsMaking from to old new status = OfStores (λ k l.
    (status ≡ 0 → IsMade (λ _. true) (l to) (λ key. Appends old new (key_text key)))
    × (status ≡ 1 → IsNoKey (λ _. true) (λ f. Appends old new (refusal_text (refusal.Key f))))
    × (status ≡ 1 → l ≡ k))

-- the text of a file is printed with status 0, or with status 2 nothing is
abbrev pub IsPrinting : Option (List ℕ) → Option (List ℕ) → ℕ → Type 0
IsPrinting old new status =
    (status ≡ 0 → IsText (λ _. true) (λ text. Appends old new text)) × (status ≡ 2 → new ≡ old)

-- the file with the signature is stored with status 0, or else nothing is
abbrev pub IsAttaching : AttachPaths → Option (List ℕ) → Option (List ℕ) → ℕ → Type 0
IsAttaching paths old new status = OfStores (λ k l.
    (status ≡ 0 → IsStored (λ _ _. true) paths (l paths.to.now)
    (λ key a. Appends old new (entry_text key a)))
    × (status ≢ 0 → IsRefused (λ _ _. true) paths
    (λ r. (status ≡ refusal_status r) × Appends old new (refusal_text r)))
    × (status ≢ 0 → l ≡ k))

-- it is printed who signed, with status 0 if they are enough and 1 if not; or why it can't be said
abbrev pub IsNaming : By → Option (List ℕ) → Option (List ℕ) → ℕ → Type 0
IsNaming by old new status =
    (status ≢ 2 → IsTold (λ _. true) (λ _. true) by.role (AreTold by status old new))
    × (status ≡ 2 → IsUntold (λ _. true) (λ _. true) by.role
    (λ r. Appends old new (refusal_text r)))
