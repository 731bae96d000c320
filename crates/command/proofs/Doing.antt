-- What a subcommand does, from what its run does.
use Rattle.std.proofs.Common.{◌≡◌, ◌≢◌, ◌⊎◌, inl, inr, ℕ, List, Option, Some, Result, Ok, Err, IfOk, IfErr, OnOk, true, false, [], ◌∷◌, length, subst, sym}
use Rattle.failure.specs.declared.failure.Failure.{Failure}
use Rattle.failure.specs.declared.failure.Failure.TheVariants.{Memory, Output}
use Rattle.update.specs.Copies.{IsVerifiedInto}
use Rattle.replay.specs.Cycles.{IsReplayed}
use Rattle.update.specs.Fetching.{IsNext}
use Rattle.update.specs.First.{IsRefused, IsTrusted}
use Rattle.update.specs.Runs.{IsVerified}
use Rattle.folder.specs.Folders.{Disk, Giving}
use Rattle.system.specs.Files.{keeps, locks}
use Rattle.system.specs.declared.held.Held as file
use Rattle.update.specs.World.{IsUntouched, Mirror, World}
use Rattle.update.specs.declared.fetching.Wants.{Wants}
use Rattle.replay.specs.declared.replaying.Cycles.{Cycles}
use Rattle.update.specs.declared.start.Terms.{Terms}
use Rattle.command.specs.declared.subcommand.FolderPaths.{FolderPaths}
use Rattle.command.specs.Done.{AreAt, IsFirst, IsNextOf, IsReplayedOf, IsVerifiedIntoOf, IsVerifiedOf, Held, IsCauseOf, OfHeld, site_at, system_of, system_with}

-- ---- what is held by a run on the files of the system

abbrev pub held_of : {F : Type 0} → Option (file.Held F) → Option (file.Held F) → Held
held_of locked stored = record { locks = locks (λ _. true) locked stored; keeps = keeps (λ _ _. true) stored }

-- what a folder of the file system may give
abbrev giving_of : Disk → Giving
giving_of d = record { lists = λ _. true; holds = λ _ _. true; failures = d.faults; place = Some d.path }

-- the two folders of a repository in the file system
abbrev pub mirror_of : Disk → Disk → Mirror
mirror_of metadata targets = record { metadata = giving_of metadata; targets = giving_of targets }

-- ---- a status

pub first_of : (r : Result ℕ Failure) (root state : List ℕ) (h k : Held) (old new : Option (List ℕ))
    → IfOk r (λ status. (status ≡ 0) ⊎ (status ≡ 2)) → IfOk r (λ status. status ≡ 0 → IsTrusted root state (system_of h [] old) (system_of k [] new))
    → IfOk r (λ status. status ≡ 2 → IsRefused root (system_of h [] old) (system_of k [] new))
    → IfOk r (λ status. OfHeld (λ h k. IsFirst root state (system_of h [] old) (system_of k [] new) status))
first_of (Ok status) root state h k old new (inl zero) trusted refused = record { before = h; afterwards = k; then = inl (zero, trusted zero) }
first_of (Ok status) root state h k old new (inr two) trusted refused = record { before = h; afterwards = k; then = inr (two, refused two) }
first_of (Err f) root state h k old new either trusted refused = tt

pub verified_of : (r : Result ℕ Failure) (terms : Terms) (folders : FolderPaths) (h k : Held) (m : Mirror) (ns : List Mirror) (old new : Option (List ℕ)) → AreAt folders m
    → IfOk r (IsVerified terms (system_of h (m ∷ []) old) (system_of k ns new)) → IfOk r (IsVerifiedOf terms folders old new)
verified_of (Ok status) terms folders h k m ns old new at is = record { before = h; afterwards = k; then = record { mirror = m; at = at; then = is } }
verified_of (Err f) terms folders h k m ns old new at is = tt

pub verified_into_of : (r : Result ℕ Failure) (terms : Terms) (folders : FolderPaths) (into : List ℕ) (h k : Held) (m : Mirror) (ns : List Mirror) (old new : Option (List ℕ)) → AreAt folders m
    → IfOk r (IsVerifiedInto terms (site_at into) (system_of h (m ∷ []) old) (system_of k ns new)) → IfOk r (IsVerifiedIntoOf terms folders into old new)
verified_into_of (Ok status) terms folders into h k m ns old new at is = record { before = h; afterwards = k; then = record { mirror = m; at = at; then = is } }
verified_into_of (Err f) terms folders into h k m ns old new at is = tt

pub replayed_of : (r : Result ℕ Failure) (cycles : Cycles) (count : ℕ) (h k : Held) (ms ns : List Mirror) (old new : Option (List ℕ))
    → length ms ≡ count → IfOk r (IsReplayed cycles (system_of h ms old) (system_of k ns new)) → IfOk r (IsReplayedOf cycles count old new)
replayed_of (Ok status) cycles count h k ms ns old new each is = record { before = h; afterwards = k; then = record { mirrors = ms; each = each; then = is } }
replayed_of (Err f) cycles count h k ms ns old new each is = tt

pub next_of : (r : Result ℕ Failure) (w : Wants) (folders : FolderPaths) (m : Mirror) (ns : List Mirror) (old new : Option (List ℕ)) → IfOk r (λ status. status ≡ 0)
    → AreAt folders m → OnOk r (IsNext w (system_with (m ∷ []) old) (system_with ns new)) → IfOk r (IsNextOf w folders old new)
next_of (Ok status) w folders m ns old new zero at is = (zero, record { mirror = m; at = at; then = is })
next_of (Err f) w folders m ns old new zero at is = tt

-- ---- a failure

pub quiet_of : (r : Result ℕ Failure) (old new : World) → IfErr r (λ f. f ≢ Memory → f ≢ Output → IsUntouched old new)
    → IfErr r (λ f. f ≢ Memory → f ≢ Output → new.printed ≡ old.printed)
quiet_of (Ok status) old new is = tt
quiet_of (Err f) old new is = λ memory output. (is memory output).1

pub cause_of : (r : Result ℕ Failure) (cause : World → World → Failure → Type 0) (h k : Held) (ms ns : List Mirror) (old new : Option (List ℕ))
    → IfErr r (cause (system_of h ms old) (system_of k ns new)) → IfErr r (λ f. IsCauseOf (λ w v. cause w v f) old new)
cause_of (Ok status) cause h k ms ns old new is = tt
cause_of (Err f) cause h k ms ns old new is = record { before = h; afterwards = k; then = record { before = ms; afterwards = ns; then = is } }

-- out of memory before anything is begun
pub out_of_memory : (f : Failure) (cause : World → World → Failure → Type 0) (old new : Option (List ℕ)) → f ≡ Memory → ((w v : World) → cause w v Memory) → IsCauseOf (λ w v. cause w v f) old new
out_of_memory f cause old new is of = subst (λ f. IsCauseOf (λ w v. cause w v f) old new) (sym is)
    (record { before = none; afterwards = none; then = record { before = []; afterwards = []; then = of _ _ } })
  where
    none : Held
    none = record { locks = λ _. false; keeps = λ _ _. true }

-- what is used of these for each run
pub ruleset quiet = (quiet_of, next_of)
