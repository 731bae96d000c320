-- What the steps of a ceremony do, on the file system.
use Rattle.std.proofs.Common.{◌≡◌, ◌≢◌, ℕ, List, Bool, true, Option, Result, Ok, Err, IfOk}
use Rattle.std.specs.Io.KnownBytes.{Appends}
use Rattle.failure.specs.declared.failure.Failure.{Failure}
use Rattle.ceremony.specs.Entered.{IsRefused, IsStored}
use Rattle.ceremony.specs.KeyFiles.{IsMade, IsNoKey}
use Rattle.ceremony.specs.Printed.{entry_text, key_text, refusal_status, refusal_text}
use Rattle.ceremony.specs.SignedBy.{AreTold, IsTold, IsUntold}
use Rattle.ceremony.specs.Texts.{IsText}
use Rattle.ceremony.specs.declared.files.AttachPaths.{AttachPaths}
use Rattle.ceremony.specs.declared.lines.Refusal.TheVariants as refusal
use Rattle.ceremony.specs.declared.signers.By.{By}
use Rattle.command.specs.Steps.{IsAttaching, IsMaking, IsNaming, IsPrinting}

abbrev Stores : Type 0
Stores = List ℕ → List ℕ → Bool

pub making : (r : Result ℕ Failure) (from to : List ℕ) (k l : Stores) (old new : Option (List ℕ))
    → IfOk r (λ s. s ≡ 0 → IsMade (λ _. true) (l to) (λ key. Appends old new (key_text key)))
    → IfOk r (λ s. s ≡ 1 → IsNoKey (λ _. true) (λ f. Appends old new (refusal_text (refusal.Key f))))
    → IfOk r (λ s. s ≡ 1 → l ≡ k) → IfOk r (IsMaking from to old new)
making (Ok s) from to k l old new made refused kept = record { before = k; afterwards = l; then = (made, refused, kept) }
making (Err f) from to k l old new made refused kept = tt

pub printing : (r : Result ℕ Failure) (old new : Option (List ℕ))
    → IfOk r (λ s. s ≡ 0 → IsText (λ _. true) (λ text. Appends old new text)) → IfOk r (λ s. s ≡ 2 → new ≡ old) → IfOk r (IsPrinting old new)
printing (Ok s) old new printed quiet = (printed, quiet)
printing (Err f) old new printed quiet = tt

pub attaching : (r : Result ℕ Failure) (paths : AttachPaths) (k l : Stores) (old new : Option (List ℕ))
    → IfOk r (λ s. s ≡ 0 → IsStored (λ _ _. true) paths (l paths.to.now) (λ key a. Appends old new (entry_text key a)))
    → IfOk r (λ s. s ≢ 0 → IsRefused (λ _ _. true) paths (λ f. (s ≡ refusal_status f) × Appends old new (refusal_text f)))
    → IfOk r (λ s. s ≢ 0 → l ≡ k) → IfOk r (IsAttaching paths old new)
attaching (Ok s) paths k l old new stored refused kept = record { before = k; afterwards = l; then = (stored, refused, kept) }
attaching (Err f) paths k l old new stored refused kept = tt

pub naming : (r : Result ℕ Failure) (by : By) (old new : Option (List ℕ))
    → IfOk r (λ s. s ≢ 2 → IsTold (λ _. true) (λ _. true) by.role (AreTold by s old new))
    → IfOk r (λ s. s ≡ 2 → IsUntold (λ _. true) (λ _. true) by.role (λ f. Appends old new (refusal_text f))) → IfOk r (IsNaming by old new)
naming (Ok s) by old new told refused = (told, refused)
naming (Err f) by old new told refused = tt
