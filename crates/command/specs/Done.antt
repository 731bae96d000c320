-- What the subcommands print and return.
use Rattle.std.specs.Bool.{⊤}
use Rattle.std.specs.Prelude.{◌≡◌, ◌⊎◌, ℕ, List, Bool, true, false, Option, Some, length, option_map, [], ◌∷◌}
use Rattle.failure.specs.declared.failure.Failure.{Failure}
use Rattle.copies.specs.Paths.{Site}
use Rattle.update.specs.Causes as run
use Rattle.update.specs.Copies.{IsCauseToVerifyInto, IsVerifiedInto}
use Rattle.replay.specs.Cycles as replay
use Rattle.replay.specs.Cycles.{IsReplayed}
use Rattle.update.specs.Fetching.{IsCauseOfNext, IsNext}
use Rattle.update.specs.declared.fetching.Wants.{Wants}
use Rattle.update.specs.First.{IsCauseOfFirst, IsRefused, IsTrusted}
use Rattle.update.specs.Runs.{IsVerified}
use Rattle.update.specs.Shown.{IsCauseToShow, IsCauseToShowFile, IsFileShown, IsShown}
use Rattle.update.specs.World.{Mirror, World}
use Rattle.replay.specs.declared.replaying.Cycles.{Cycles}
use Rattle.update.specs.declared.start.Terms.{Terms}
use Rattle.command.specs.Steps.{IsAttaching, IsMaking, IsNaming, IsPrinting}
use Rattle.command.specs.declared.subcommand.FolderPaths.{FolderPaths}
use Rattle.command.specs.declared.subcommand.Subcommand.{Subcommand}
use Rattle.command.specs.declared.subcommand.Subcommand.TheVariants.{Init, Verify, VerifyInto, Replay, Next, Show, ShowFile, Key, Text, Attach, Signers, Make}

-- # What a run works on.

-- the paths that this run has locked, and what was stored
pub record Held : Type 0 where
  pub locks : List ℕ → Bool
  pub keeps : List ℕ → List ℕ → Bool

-- The file system and the clock, of which any file may give any bytes and no file may be put at
-- any path, with what is held, the folders of repositories, and what was printed.
abbrev pub system_of : Held → List Mirror → Option (List ℕ) → World
system_of held mirrors printed = record {
  gives = λ _ _. true;
  gives_locked = λ _ _. true;
  refuses = λ _. true;
  locks = held.locks;
  shows = λ _. true;
  keeps = held.keeps;
  obstacles = record { blocks = λ _. true; fails = λ _. true };
  mirrors = mirrors;
  printed = printed;
}

-- the same, where nothing depends on what is held
abbrev pub system_with : List Mirror → Option (List ℕ) → World
system_with = system_of (record { locks = λ _. false; keeps = λ _ _. true })

-- these are the folders of those paths
abbrev pub AreAt : FolderPaths → Mirror → Type 0
AreAt folders m =
    (m.metadata.place ≡ Some folders.metadata.now) × (m.targets.place ≡ Some folders.targets.now)

-- what is held before and afterwards, of which more holds
pub record OfHeld (follows : Held → Held → Type 0) : Type 0 where
  pub before : Held
  pub afterwards : Held
  pub then : follows before afterwards

-- the folders of a repository, of which more holds
pub record OfOne (folders : FolderPaths) (follows : List Mirror → Type 0) : Type 0 where
  pub mirror : Mirror
  pub at : AreAt folders mirror
  pub then : follows (mirror ∷ [])

-- the folders of so many repositories, of which more holds
pub record OfEach (count : ℕ) (follows : List Mirror → Type 0) : Type 0 where
  pub mirrors : List Mirror
  pub each : length mirrors ≡ count
  pub then : follows mirrors

-- # A subcommand that ends with a status, between what was printed before and afterwards.

-- a root is trusted with status 0, or refused with status 2
abbrev pub IsFirst : List ℕ → List ℕ → World → World → ℕ → Type 0
IsFirst root state old new status =
    ((status ≡ 0) × IsTrusted root state old new) ⊎ ((status ≡ 2) × IsRefused root old new)

-- the repository is verified
abbrev pub IsVerifiedOf : Terms → FolderPaths → Option (List ℕ) → Option (List ℕ) → ℕ → Type 0
IsVerifiedOf terms folders old new status =
    OfHeld (λ h k. OfOne folders (λ ms. IsVerified terms (system_of h ms old)
    (system_of k ms new) status))

-- a folder for copies, in which any path may be blocked, and of which any call may fail
abbrev pub site_at : List ℕ → Site
site_at path = record { path = path; blocks = λ _. true; fails = true }

-- the repository is verified, and copies of its good targets are stored below the folder `into`
abbrev pub IsVerifiedIntoOf : Terms → FolderPaths → List ℕ → Option (List ℕ) → Option (List ℕ)
    → ℕ → Type 0
IsVerifiedIntoOf terms folders into old new status =
    OfHeld (λ h k. OfOne folders (λ ms. IsVerifiedInto terms (site_at into)
    (system_of h ms old) (system_of k ms new) status))

-- so many repositories are verified, one after another
abbrev pub IsReplayedOf : Cycles → ℕ → Option (List ℕ) → Option (List ℕ) → ℕ → Type 0
IsReplayedOf cycles count old new status =
    OfHeld (λ h k. OfEach count (λ ms. IsReplayed cycles (system_of h ms old)
    (system_of k ms new) status))

-- the files that the repository lacks are listed, with status 0
abbrev pub IsNextOf : Wants → FolderPaths → Option (List ℕ) → Option (List ℕ) → ℕ → Type 0
IsNextOf wants folders old new status =
    (status ≡ 0) × OfOne folders (λ ms. IsNext wants (system_with ms old) (system_with ms new))

-- what the subcommand does, by its run's own definition
abbrev pub IsDone : Subcommand → Option (List ℕ) → Option (List ℕ) → ℕ → Type 0
IsDone (Init first) old new status = OfHeld (λ h k.
    IsFirst first.root.now first.state.now (system_of h [] old) (system_of k [] new) status)
IsDone (Verify terms folders) old new status = IsVerifiedOf terms folders old new status
IsDone (VerifyInto terms folders into) old new status =
    IsVerifiedIntoOf terms folders into.now old new status
IsDone (Replay cycles repositories) old new status =
    IsReplayedOf cycles (length repositories.items) old new status
IsDone (Next wants folders) old new status = IsNextOf wants folders old new status
IsDone (Show state before) old new status = IsShown state.now (option_map (λ t. t.now) before)
    (system_with [] old) (system_with [] new) status
IsDone (ShowFile state file) old new status =
    IsFileShown state.now file (system_with [] old) (system_with [] new) status
IsDone (Key from to) old new status = IsMaking from.now to.now old new status
IsDone (Text file) old new status = IsPrinting old new status
IsDone (Attach paths) old new status = IsAttaching paths old new status
IsDone (Signers file by) old new status = IsNaming by old new status
IsDone (Make script folder) old new status = (status ≡ 0) × (new ≡ old)

-- # Why it fails.

-- the folders before and afterwards, of which more holds
pub record OfBoth (follows : List Mirror → List Mirror → Type 0) : Type 0 where
  pub before : List Mirror
  pub afterwards : List Mirror
  pub then : follows before afterwards

-- a run fails for such a cause, whatever is held
abbrev pub IsCauseOf : (World → World → Type 0) → Option (List ℕ) → Option (List ℕ) → Type 0
IsCauseOf cause old new =
    OfHeld (λ h k. OfBoth (λ ms ns. cause (system_of h ms old) (system_of k ns new)))

-- the cause by the run's own definition; of the steps of a ceremony and of `make` none is known
abbrev pub IsCause : Subcommand → Option (List ℕ) → Option (List ℕ) → Failure → Type 0
IsCause (Init first) old new f = IsCauseOf (λ w v. IsCauseOfFirst first w v f) old new
IsCause (Verify terms folders) old new f = IsCauseOf (λ w v. run.IsCause terms w v f) old new
IsCause (VerifyInto terms folders into) old new f =
    IsCauseOf (λ w v. IsCauseToVerifyInto terms (site_at into.now) w v f) old new
IsCause (Replay cycles repositories) old new f =
    IsCauseOf (λ w v. replay.IsCause cycles w v f) old new
IsCause (Next wants folders) old new f = IsCauseOf (λ w v. IsCauseOfNext wants w v f) old new
IsCause (Show state before) old new f =
    IsCauseToShow state.now (option_map (λ t. t.now) before) (system_with [] old) f
IsCause (ShowFile state file) old new f = IsCauseToShowFile state.now (system_with [] old) f
IsCause (Key from to) old new f = ⊤
IsCause (Text file) old new f = ⊤
IsCause (Attach paths) old new f = ⊤
IsCause (Signers file by) old new f = ⊤
IsCause (Make script folder) old new f = ⊤
