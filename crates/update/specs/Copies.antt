-- A verification that stores copies of the good targets.
use Rattle.std.specs.Io.KnownBytes.{Appends}
use Rattle.std.specs.List.{list_all, list_any, slice_get, starts_with}
use Rattle.std.specs.Option.{option_map_or}
use Rattle.std.specs.Prelude.{◌≡◌, ◌≢◌, ◌⊎◌, ℕ, Bool, true, false, not, ◌&&◌, ◌||◌, if◌then◌else◌, List, [], ◌∷◌, ◌++◌, length, Option, Some, IsSomeAnd, map, string_bytes, bytes_eq, nat_eq}
use Rattle.copies.specs.Paths.{IsSameAt, Site, is_below}
use Rattle.cycle.specs.Workflow.{Target, searched, target_of}
use Rattle.cycle.specs.declared.verdict.Verdict.{Verdict}
use Rattle.failure.specs.declared.failure.Failure.{Failure}
use Rattle.failure.specs.declared.failure.Failure.TheVariants.{Output, Words}
use Rattle.folder.specs.Folders.{path_below}
use Rattle.folder.specs.Seen.{is_named}
use Rattle.measured.specs.Copied.{IsContentOf}
use Rattle.report.specs.Lines.{Whys, is_good, stored_outcome_status, stored_outcome_text}
use Rattle.system.specs.Blocked.{Obstacles}
use Rattle.update.specs.Causes.{IsCauseBy, IsCauseOf, IsCauseToRead, Mirror}
use Rattle.update.specs.Runs.{Files, IsUntouched, Outcome, Request, Seen, Stores, StoresFrom, World, course, why_of}
use Rattle.update.specs.declared.start.Detail.{Detail}
use Rattle.update.specs.declared.start.Start as program
use Rattle.update.specs.declared.start.Terms.{Terms}
use Rattle.update.specs.declared.start.Wanted.{Wanted}
use Rattle.update.specs.declared.start.Wanted.TheVariants.{Paths, Every}

-- # Which paths are copied, and what.

-- the paths whose flag is set, in order
abbrev pub chosen : List (List ℕ) → List Bool → List (List ℕ)
chosen [] flags = []
chosen (path ∷ paths) [] = []
chosen (path ∷ paths) (flag ∷ flags) =
    if flag then path ∷ chosen paths flags else chosen paths flags

-- the wanted paths whose verdict is good, in order
abbrev pub good_paths : List (List ℕ) → List Verdict → List (List ℕ)
good_paths wanted verdicts = chosen wanted (map is_good verdicts)

-- there is a verdict at the index, and it is good
abbrev pub is_good_at : List Verdict → ℕ → Bool
is_good_at verdicts i = option_map_or is_good (slice_get verdicts i) false

-- one of the paths is below this one
abbrev pub is_folder_of_one : List (List ℕ) → List ℕ → Bool
is_folder_of_one paths path =
    list_any (λ other. starts_with nat_eq other (path ++ 47 ∷ [])) paths

-- a copy may have the path: it is one below the folder, and none of these paths is below it
abbrev pub may_have_copy : List (List ℕ) → List ℕ → Bool
may_have_copy paths path = is_below path && not (is_folder_of_one paths path)

-- the place of the path isn't the state's
abbrev pub is_free : List ℕ → List ℕ → List ℕ → Bool
is_free into state path = not (bytes_eq (path_below into path) state)

-- both
abbrev pub has_place : List ℕ → List ℕ → List (List ℕ) → List ℕ → Bool
has_place into state paths path = may_have_copy paths path && is_free into state path

-- the folder for copies, what may keep a file from being put at a path, and the state's place
pub record Placing : Type 0 where
  pub site : Site
  pub obstacles : Obstacles
  pub state : List ℕ

-- the folder or the system puts no file at the place of the path
abbrev pub is_blocked : Placing → List ℕ → Bool
is_blocked p path = p.site.blocks path || p.obstacles.blocks (path_below p.site.path path)

-- if it was stored, the path has a place; else it has none, or it is blocked
abbrev pub IsFlag : (List ℕ → Bool) → (List ℕ → Bool) → List ℕ → Bool → Type 0
IsFlag has_place blocked path true = has_place path ≡ true
IsFlag has_place blocked path false = (has_place path ≡ false) ⊎ (blocked path ≡ true)

-- for each of the first wanted paths, whether a copy was stored: only if the verdict is good, and
-- then exactly if the path has a place and isn't blocked
pub record AreFlags (has_place blocked : List ℕ → Bool) (wanted : List (List ℕ))
    (verdicts : List Verdict) (stored : List Bool) : Type 0 where
  pub only_good : (i : ℕ) → slice_get stored i ≡ Some true → is_good_at verdicts i ≡ true
  pub each : (i : ℕ) (path : List ℕ) (flag : Bool) → slice_get wanted i ≡ Some path
      → slice_get stored i ≡ Some flag → is_good_at verdicts i ≡ true
      → IsFlag has_place blocked path flag

-- the target that the search for a path finds
abbrev pub target_for : Request → Files → List ℕ → Option Target
target_for r metadata path = let c = course r metadata in
    target_of (searched metadata r.moment r.limit c.trusted c.end path)

-- the bytes with which a path was stored
abbrev pub Kept : Type 0
Kept = List ℕ → List ℕ → Bool

-- the path below the folder was stored with the bytes of the target
pub record IsCopied (into : List ℕ) (keeps : Kept) (path : List ℕ) (t : Target) : Type 0 where
  pub below : is_below path ≡ true
  pub bytes : List ℕ
  pub kept : keeps (path_below into path) bytes ≡ true
  pub content : IsContentOf t bytes

-- the place isn't that of one of the paths below the folder
abbrev pub IsOfNone : List ℕ → List (List ℕ) → List ℕ → Type 0
IsOfNone into paths place =
    (path : List ℕ) → is_named paths path ≡ true → place ≢ path_below into path

-- These paths below the folder were stored, each with the bytes of the target that its search
-- found. Of all other places none changed but the state's.
pub record AreCopied (into state : List ℕ) (found : List ℕ → Option Target)
    (paths : List (List ℕ)) (old new : Kept) : Type 0 where
  pub each : (path : List ℕ) → is_named paths path ≡ true
      → IsSomeAnd (found path) (IsCopied into new path)
  pub others : (place : List ℕ) → place ≢ state → IsOfNone into paths place
      → IsSameAt place old new

-- the copies of the paths whose flags are set were stored, and each flag has its cause
pub record AreStored (p : Placing) (found : List ℕ → Option Target) (wanted : List (List ℕ))
    (verdicts : List Verdict) (stored : List Bool) (old new : Kept) : Type 0 where
  pub flags : AreFlags (has_place p.site.path p.state (good_paths wanted verdicts)) (is_blocked p)
      wanted verdicts stored
  pub copied : AreCopied p.site.path p.state found (chosen wanted stored) old new

-- so were those of some of the first wanted paths
abbrev pub AreSomeStored : Placing → (List ℕ → Option Target) → List (List ℕ) → List Verdict
    → Kept → Kept → Type 0
AreSomeStored p found wanted verdicts old new =
    (stored : List Bool) × AreStored p found wanted verdicts stored old new

-- what is stored outside of the folder, and not as the state, is as it was
abbrev pub OutsideKept : List ℕ → List ℕ → Kept → Kept → Type 0
OutsideKept into state old new = (place : List ℕ) → place ≢ state
    → ((path : List ℕ) → is_below path ≡ true → place ≢ path_below into path)
    → IsSameAt place old new

-- # What a verification stores and prints.

-- the lines of an outcome of which these copies were stored were printed, with these that say why,
-- and this is its status
pub record IsPrintedWith (o : Outcome) (why : Whys) (wanted : List (List ℕ))
    (stored : List Bool) (status : ℕ) (old new : Option (List ℕ)) : Type 0 where
  pub lines : Appends old new (stored_outcome_text o why wanted stored)
  pub answered : status ≡ stored_outcome_status o stored

-- for each wanted path it was decided whether its copy is stored, and that was printed
pub record IsPrintedInto (d : Detail) (p : Placing) (old new : Option (List ℕ))
    (before after : Kept) (status : ℕ) (start : Request) (metadata : Files) (targets : Seen)
    (o : Outcome) : Type 0 where
  pub stored : List Bool
  pub by_position : length stored ≡ length start.wanted
  pub are_stored : AreStored p (target_for start metadata) start.wanted o.verdicts stored before
      after
  pub is_printed : IsPrintedWith o (why_of d start metadata targets o) start.wanted stored status
      old new

-- copies of some of the first wanted paths were stored
abbrev pub AreBegun : Placing → Kept → Kept → Request → Files → Seen → Outcome → Type 0
AreBegun p old new start metadata targets o =
    AreSomeStored p (target_for start metadata) start.wanted o.verdicts old new

-- # A verification of the only repository, with copies of its good targets.

-- ---- from a state and a moment that were read

-- where copies are put
abbrev pub placing : Site → World → List ℕ → Placing
placing site old state = record { site = site; obstacles = old.obstacles; state = state }

abbrev pub IsVerifiedIntoFrom : program.Start → Wanted → Site → World → World → ℕ → Type 0
IsVerifiedIntoFrom s wanted site old new status = StoresFrom s wanted old new
    (IsPrintedInto s.detail (placing site old s.state.now) old.printed new.printed old.keeps
    new.keeps status)

-- nothing was stored, copied or printed, or the new state was stored, and the copies of some of the
-- first wanted paths
abbrev pub IsUntouchedOrBegunFrom : program.Start → Wanted → Site → World → World → Type 0
IsUntouchedOrBegunFrom s wanted site old new = IsUntouched old new
    ⊎ StoresFrom s wanted old new (AreBegun (placing site old s.state.now) old.keeps new.keeps)

-- ---- from those that the words name

abbrev pub IsVerifiedInto : Terms → Site → World → World → ℕ → Type 0
IsVerifiedInto terms site old new status = Stores terms old new
    (IsPrintedInto terms.settings.detail (placing site old terms.settings.out.now) old.printed
    new.printed old.keeps new.keeps status)

abbrev pub IsUntouchedOrBegun : Terms → Site → World → World → Type 0
IsUntouchedOrBegun terms site old new = IsUntouched old new
    ⊎ Stores terms old new (AreBegun (placing site old terms.settings.out.now) old.keeps new.keeps)

-- # Why it fails.

-- a copy may have each path that is given
abbrev pub may_be_copied : Wanted → Bool
may_be_copied (Paths given) = list_all is_below (map string_bytes given.items)
may_be_copied Every = true

-- of a run from a start: a copy couldn't be written, or as without copies
abbrev pub IsCauseIntoBy : program.Start → Wanted → Site → Obstacles → List Mirror → World
    → Failure → Type 0
IsCauseIntoBy s wanted site obstacles mirrors new Output =
    (site.fails ≡ true) ⊎ IsCauseBy s wanted obstacles mirrors new Output
IsCauseIntoBy s wanted site obstacles mirrors new f = IsCauseToRead mirrors new.mirrors f

abbrev pub IsCauseIntoFrom : program.Start → Wanted → Site → World → World → Failure → Type 0
IsCauseIntoFrom s wanted site old new f =
    IsCauseIntoBy s wanted site old.obstacles old.mirrors new f

-- a given path that no copy may have, before anything else; or of what the words name
abbrev pub IsCauseToVerifyInto : Terms → Site → World → World → Failure → Type 0
IsCauseToVerifyInto terms site old new f =
    ((f ≡ Words) × (may_be_copied terms.wanted ≡ false))
    ⊎ IsCauseOf terms.settings old (λ s. IsCauseIntoFrom s terms.wanted site old new f) f
