-- A verification: what it begins with, its outcome, and what it stores and prints.
use Rattle.std.specs.Bool.{⊤}
use Rattle.std.specs.Io.KnownBytes.{Appends}
use Rattle.std.specs.Option.{option_map_or}
use Rattle.std.specs.Prelude.{IfSome, ◌≡◌, ◌⊎◌, ℕ, List, Bool, true, Option, None, Some, Ok, map, option_map, string_bytes, [], ◌∷◌}
use Rattle.rolechain.specs.Text.{state_of}
use Rattle.rolechain.specs.Kept.{kept_of, kept_text}
pub use Rattle.rolechain.specs.Advance.{State}
pub use Rattle.rolechain.specs.declared.end.End.{End}
use Rattle.rolechain.specs.declared.end.End.TheVariants.{Ready, Stopped}
use Rattle.deleg.specs.declared.accepted.Search.{Search}
use Rattle.cycle.specs.Workflow.{target_of}
pub use Rattle.cycle.specs.Workflow.{Course, Files, Outcome, Repository, Request, course, request, workflow}
use Rattle.lookups.specs.Lookups.{IsLookedUp, files_read}
use Rattle.measured.specs.Closed.{is_found, seen_file}
use Rattle.paths.specs.Names.{ArePathsOf}
use Rattle.report.specs.Lines.{Whys, outcome_status, outcome_text}
use Rattle.whys.specs.Whys.{stop_text, target_text}
pub use Rattle.folder.specs.Seen.{Seen, AreSeen, MayBeSeen}
pub use Rattle.update.specs.Moments.{IsMomentOf, Moment}
pub use Rattle.update.specs.World.{Mirror, World, IsUntouched}
use Rattle.update.specs.declared.start.Detail.{Detail}
use Rattle.update.specs.declared.start.Detail.TheVariants.{Faults, Reasons}
use Rattle.update.specs.declared.start.Locking.{Locking}
use Rattle.update.specs.declared.start.Locking.TheVariants.{Needed, Without}
use Rattle.update.specs.declared.start.Settings.{Settings}
use Rattle.update.specs.declared.start.Start as program
use Rattle.update.specs.declared.start.Terms.{Terms}
use Rattle.update.specs.declared.start.Wanted.{Wanted}
use Rattle.update.specs.declared.start.Wanted.TheVariants.{Paths, Every}

-- # What it begins with.

-- what a value of the program requests, for these paths
abbrev pub start_of : program.Start → List (List ℕ) → Request
start_of s paths =
    record { trusted = s.trusted; moment = s.moment; wanted = paths; limit = s.limits.roles }

-- the text of the moment, if the words have one
abbrev pub moment_text : Settings → Option (List ℕ)
moment_text settings = option_map (λ t. t.now) settings.moment

-- a trusted state that was read
pub record IsRead (gives : List ℕ → Bool) (trusted : State) : Type 0 where
  pub text : List ℕ
  pub given : gives text ≡ true
  pub of_text : state_of text ≡ Ok trusted

-- what the words name: the moment and the trusted state that were read, and the rest as it is
pub record IsStart (settings : Settings) (gives : List ℕ → List ℕ → Bool) (shows : Option ℕ → Bool)
    (s : program.Start) : Type 0 where
  pub read : IsRead (gives settings.state.now) s.trusted
  pub of_moment : IsMomentOf shows (moment_text settings) s.moment
  pub limits : s.limits ≡ settings.limits
  pub workers : s.workers ≡ settings.workers
  pub place : s.state.now ≡ settings.out.now
  pub detail : s.detail ≡ settings.detail

-- what a file may give, while it is locked if it has to be
abbrev pub given_by : Locking → (List ℕ → List ℕ → Bool) → (List ℕ → List ℕ → Bool)
    → List ℕ → List ℕ → Bool
given_by Needed locked free = locked
given_by Without locked free = free

-- There is such a start, whose state was read while its file was locked if it has to be, and more
-- follows from it.
pub record Begins (settings : Settings) (old : World) (follows : program.Start → Type 0)
    : Type 0 where
  pub start : program.Start
  pub is_start : IsStart settings (given_by settings.locking old.gives_locked old.gives) old.shows
      start
  pub then : follows start

-- the paths that are given; or for every file, those of the names that the targets folder lists
abbrev pub AreWanted : Wanted → Bool → List (List ℕ) → List (List ℕ) → Type 0
AreWanted (Paths given) consistent names paths = paths ≡ map string_bytes given.items
AreWanted Every consistent names paths = ArePathsOf consistent names paths

-- # Its outcome.

-- the name is one of a target that a search found
abbrev pub is_found_from : Request → Files → List ℕ → Bool
is_found_from s metadata name =
    let c = course s metadata in
    is_found c.trusted.root.reading.consistent c.searches name

-- The outcome on all files that are seen so, whatever else they have. No target file was read but
-- of targets that searches found. There are such files.
pub record IsOutcomeIn (start : Request) (metadata targets : Seen) (o : Outcome) : Type 0 where
  pub outcome : (repo : Repository) → AreSeen metadata repo.metadata
      → AreSeen targets repo.targets → o ≡ workflow start repo
  pub only_found : (name : List ℕ) → IfSome (targets.read name)
      (λ _. is_found_from start (files_read metadata) name ≡ true)
  pub repo : Repository
  pub are_metadata : AreSeen metadata repo.metadata
  pub are_targets : AreSeen targets repo.targets

-- what was seen of the folders of a repository, and the outcome
pub record IsOutcomeOn (mirror : Mirror) (start : Request) (o : Outcome) : Type 0 where
  pub metadata : Seen
  pub looked_up : IsLookedUp mirror.metadata metadata
  pub targets : Seen
  pub may_be_seen : MayBeSeen mirror.targets.lists mirror.targets.holds targets
  pub of_files : IsOutcomeIn start metadata targets o

-- # What it stores and prints.

-- the text of a state file
unfoldable pub state_text : State → List ℕ
state_text s = kept_text (kept_of s)

-- whether target files have consistent names, by the root that the outcome trusts
abbrev pub has_consistent_names : Outcome → Bool
has_consistent_names o = o.trusted.root.reading.consistent

-- The outcome on the folders of a repository, for the paths that are wanted: its new state is
-- stored, and more holds of the request, of the metadata, of what was seen of the targets and of it.
pub record IsStoredOn (mirror : Mirror) (s : program.Start) (wanted : Wanted)
    (keeps : List ℕ → Bool) (follows : Request → Files → Seen → Outcome → Type 0) : Type 0 where
  pub names : List (List ℕ)
  pub listed : mirror.targets.lists names ≡ true
  pub paths : List (List ℕ)
  pub outcome : Outcome
  pub are_wanted : AreWanted wanted (has_consistent_names outcome) names paths
  pub of_workflow : IsOutcomeOn mirror (start_of s paths) outcome
  pub kept : keeps (state_text outcome.trusted) ≡ true
  pub then : follows (start_of s paths) (files_read of_workflow.metadata) of_workflow.targets
      outcome

-- the same on the only repository
abbrev pub IsStored : List Mirror → program.Start → Wanted → (List ℕ → Bool)
    → (Request → Files → Seen → Outcome → Type 0) → Type 0
IsStored (m ∷ []) s wanted keeps follows = IsStoredOn m s wanted keeps follows
IsStored _ s wanted keeps follows = ⊥

-- the lines that say why a cycle stopped that left this state, if they are asked for
abbrev pub why_text : Detail → Files → Moment → State → End → List ℕ
why_text Reasons metadata now s (Stopped step fault) = stop_text metadata now s step fault
why_text Reasons metadata now s Ready = []
why_text Faults metadata now s end = []

-- those that say why the file of the target is refused that a search found, by what was read of it
abbrev pub path_text : Seen → Bool → Option Search → List ℕ
path_text targets consistent s = option_map_or
    (λ t. target_text consistent t (seen_file targets consistent t)) (target_of s) []

-- for each search, if they are asked for
abbrev pub path_texts : Detail → Seen → Course → Option (List (List ℕ))
path_texts Reasons targets c =
    Some (map (path_text targets c.trusted.root.reading.consistent) c.searches)
path_texts Faults targets c = None

-- what says why, by the metadata files and what was seen of the targets
abbrev pub why_of : Detail → Request → Files → Seen → Outcome → Whys
why_of d r metadata targets o = record {
  stop = why_text d metadata r.moment o.trusted o.end;
  paths = path_texts d targets (course r metadata);
}

-- the outcome's lines were printed, with these that say why, and the status is its own
pub record IsPrinted (o : Outcome) (why : Whys) (wanted : List (List ℕ)) (status : ℕ)
    (old new : Option (List ℕ)) : Type 0 where
  pub lines : Appends old new (outcome_text o why wanted)
  pub answered : status ≡ outcome_status o

-- the same of the paths of the request
abbrev pub IsPrintedOf : Detail → Option (List ℕ) → Option (List ℕ) → ℕ
    → Request → Files → Seen → Outcome → Type 0
IsPrintedOf d old new status r metadata targets o =
    IsPrinted o (why_of d r metadata targets o) r.wanted status old new

-- # A verification of the only repository.

-- ---- from a state and a moment that were read

-- its new state is stored, and more holds of its outcome
abbrev pub StoresFrom : program.Start → Wanted → World → World
    → (Request → Files → Seen → Outcome → Type 0) → Type 0
StoresFrom s wanted old new = IsStored old.mirrors s wanted (new.keeps s.state.now)

-- its lines were printed too, and this is its status
abbrev pub IsVerifiedFrom : program.Start → Wanted → World → World → ℕ → Type 0
IsVerifiedFrom s wanted old new status =
    StoresFrom s wanted old new (IsPrintedOf s.detail old.printed new.printed status)

-- nothing was stored or printed, or the new state was stored
abbrev pub IsUntouchedOrStoredFrom : program.Start → Wanted → World → World → Type 0
IsUntouchedOrStoredFrom s wanted old new =
    IsUntouched old new ⊎ StoresFrom s wanted old new (λ _ _ _ _. ⊤)

-- ---- from those that the words name

abbrev pub Stores : Terms → World → World → (Request → Files → Seen → Outcome → Type 0) → Type 0
Stores terms old new follows =
    Begins terms.settings old (λ s. StoresFrom s terms.wanted old new follows)

abbrev pub IsVerified : Terms → World → World → ℕ → Type 0
IsVerified terms old new status =
    Stores terms old new (IsPrintedOf terms.settings.detail old.printed new.printed status)

abbrev pub IsUntouchedOrStored : Terms → World → World → Type 0
IsUntouchedOrStored terms old new = IsUntouched old new ⊎ Stores terms old new (λ _ _ _ _. ⊤)
