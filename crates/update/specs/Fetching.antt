-- The files that have to be fetched next, printed.
use Rattle.std.specs.Bool.{⊤}
use Rattle.std.specs.Io.KnownBytes.{Appends}
use Rattle.std.specs.Prelude.{◌≡◌, ◌⊎◌, ℕ, List, [], ◌∷◌, true, Option, is_some, option_map}
use Rattle.cycle.specs.Workflow.{Course}
use Rattle.failure.specs.declared.failure.Failure.{Failure}
use Rattle.failure.specs.declared.failure.Failure.TheVariants.{Output}
use Rattle.folder.specs.Seen.{is_named}
use Rattle.lookups.specs.Lookups.{IsCourseOn, files_read}
use Rattle.needs.specs.Needs.{needs}
use Rattle.needs.specs.declared.need.Need.{Need}
use Rattle.needs.specs.declared.need.Place.{Place}
use Rattle.report.specs.Fetching.{needs_text}
use Rattle.rolechain.specs.Advance as chain
use Rattle.update.specs.Causes.{IsCauseToBegin, IsCauseToRead}
use Rattle.update.specs.Moments.{IsMomentOf, Moment}
use Rattle.update.specs.Runs.{Files, IsRead, Request, course, request}
pub use Rattle.update.specs.World.{Mirror, World}
use Rattle.update.specs.declared.fetching.Wants.{Wants}

-- # What it begins with.

abbrev pub text_of : Wants → Option (List ℕ)
text_of w = option_map (λ t. t.now) w.moment

-- what the words request, as a verification has it, with a state and a moment that were read
abbrev pub request_of : Wants → chain.State → Moment → Request
request_of w trusted moment = request trusted moment w.wanted.items w.limits.roles

-- The moment and the trusted state that the words name were read, whether or not another run has
-- locked the state, and more follows from them.
pub record Starts (w : Wants) (old : World) (follows : chain.State → Moment → Type 0) : Type 0 where
  pub trusted : chain.State
  pub moment : Moment
  pub read : IsRead (old.gives w.state.now) trusted
  pub of_moment : IsMomentOf old.shows (text_of w) moment
  pub then : follows trusted moment

-- # What it prints.

-- the files that the course of the request looked up and found absent, if these are the metadata
-- files, and the names of the target files
abbrev pub needs_on : Request → Files → List (List ℕ) → List Need
needs_on r metadata names =
    needs r.trusted.root.reading (course r metadata) (λ name. is_some (metadata name))
    (is_named names)

-- they are these, by what was read of the metadata folder of a repository
pub record AreAbsentOn (mirror : Mirror) (r : Request) (all : List Need) : Type 0 where
  pub names : List (List ℕ)
  pub listed : mirror.targets.lists names ≡ true
  pub course : Course
  pub of_request : IsCourseOn mirror.metadata r course
  pub needed : all ≡ needs_on r (files_read of_request.seen) names

-- the same on the only repository
abbrev pub AreAbsentIn : List Mirror → Request → List Need → Type 0
AreAbsentIn (m ∷ []) r all = AreAbsentOn m r all
AreAbsentIn _ r all = ⊥

-- the lines of the files that are absent were printed
pub record IsListed (mirrors : List Mirror) (r : Request) (only : Option Place)
    (old new : Option (List ℕ)) : Type 0 where
  pub all : List Need
  pub are_absent : AreAbsentIn mirrors r all
  pub lines : Appends old new (needs_text only all)

-- the same of what the words request, with a state and a moment that were read
abbrev pub IsNextFrom : Wants → chain.State → Moment → World → World → Type 0
IsNextFrom w trusted moment old new =
    IsListed old.mirrors (request_of w trusted moment) w.only old.printed new.printed

abbrev pub IsNext : Wants → World → World → Type 0
IsNext w old new = Starts w old (λ trusted moment. IsNextFrom w trusted moment old new)

-- # Why it fails.

-- of reading the moment and the state
abbrev pub IsCauseToStart : Wants → World → Failure → Type 0
IsCauseToStart w old =
    IsCauseToBegin (text_of w) old.shows (old.gives w.state.now) (old.refuses w.state.now)

-- of reading the folders, or of writing the lines
abbrev pub IsCauseToList : World → World → Failure → Type 0
IsCauseToList old new Output = ⊤
IsCauseToList old new f = IsCauseToRead old.mirrors new.mirrors f

abbrev pub IsCauseOfNext : Wants → World → World → Failure → Type 0
IsCauseOfNext w old new f =
    IsCauseToStart w old f ⊎ Starts w old (λ _ _. IsCauseToList old new f)
