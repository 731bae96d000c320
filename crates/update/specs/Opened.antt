-- What was seen of a repository, for the contracts of private functions.
use Rattle.std.specs.Prelude.{◌≡◌, ℕ, List, String, true, map, string_bytes, [], ◌∷◌}
use Rattle.std.specs.declared.alloc.Global.{Global}
use Rattle.examine.specs.Checks.{file_in}
use Rattle.lookups.specs.Lookups.{Grows, IsCourseOn, IsPart, files_read}
use Rattle.lookups.specs.declared.metadata.Metadata.{Metadata}
use Rattle.folder.specs.Folders.{Giving}
use Rattle.measured.specs.Closed.{IsClosed, IsKnownOf}
use Rattle.measured.specs.declared.known.Known.{Known}
use Rattle.report.specs.declared.told.Told.{Told}
use Rattle.rolechain.specs.Advance.{advanced}
use Rattle.update.specs.Runs.{AreWanted, Course, Seen, path_texts, start_of, why_text}
use Rattle.update.specs.World.{Mirror}
use Rattle.update.specs.declared.following.Followed.{Followed}
use Rattle.update.specs.declared.start.Detail.{Detail}
use Rattle.update.specs.declared.start.Opened.{Opened}
use Rattle.update.specs.declared.start.Start as program
use Rattle.update.specs.declared.start.Wanted.{Wanted}
use Rattle.update.specs.declared.start.Wanted.TheVariants.{Paths, Every}

-- a list of the metadata folder, with what was read of it, and one of the other folder
pub record IsOpened (mirror : Mirror) (o : Opened) : Type 0 where
  pub metadata : IsPart mirror.metadata o.metadata
  pub names : mirror.targets.lists (map string_bytes o.names.items) ≡ true

-- the paths that are given, or those that were listed
abbrev pub paths_from : Wanted → List (String Global) → List (String Global)
paths_from (Paths given) listed = given.items
paths_from Every listed = listed

-- the paths of what was listed, if every file is wanted; the names are consistent if the root says
-- so that is trusted once the metadata was examined, whatever more is read of it
abbrev pub AreListed : Giving → program.Start → Wanted → Opened → List (String Global) → Type 0
AreListed g s wanted o listed = (later : Metadata) → IsPart g later → Grows o.metadata later
    → let root = (advanced (file_in later.repo.metadata) s.moment s.trusted).state.root in
    AreWanted wanted root.reading.consistent (map string_bytes o.names.items)
    (map string_bytes (paths_from wanted listed))

-- the wanted paths of a course
abbrev pub paths_of : Wanted → Followed → List (List ℕ)
paths_of wanted f = map string_bytes (paths_from wanted f.listed.items)

-- the course of the wanted paths on the metadata folder, the names of a list that the other one may
-- give, and the lines that say why the course stopped
pub record IsFollowedOn (mirror : Mirror) (s : program.Start) (wanted : Wanted) (f : Followed)
    : Type 0 where
  pub names : mirror.targets.lists (map string_bytes f.names.items) ≡ true
  pub are_wanted : AreWanted wanted f.course.trusted.root.reading.consistent
      (map string_bytes f.names.items) (paths_of wanted f)
  pub of_request : IsCourseOn mirror.metadata (start_of s (paths_of wanted f)) f.course
  pub stop : string_bytes f.stop ≡ why_text s.detail (files_read of_request.seen) s.moment
      f.course.trusted f.course.end

-- the same on the only repository
abbrev pub IsFollowed : List Mirror → program.Start → Wanted → Followed → Type 0
IsFollowed (m ∷ []) s wanted f = IsFollowedOn m s wanted f
IsFollowed _ s wanted f = ⊥

-- what is told of a course that is ended by what is known of its target files, with these lines
-- that say why it stopped
pub record IsToldBy (d : Detail) (c : Course) (stop : List ℕ) (k : Known) (t : Told) : Type 0 where
  pub outcome : IsClosed c k t.outcome
  pub why : (targets : Seen) → IsKnownOf targets k
      → t.why ≡ record { stop = stop; paths = path_texts d targets c }
