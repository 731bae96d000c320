-- Copies while they are stored, for the contracts of private functions.
use denote.Ref.{Bor}
use Rattle.std.specs.BTreeSet.{BTreeSet, contains_text}
use Rattle.std.specs.Cmp.Lexicographic.{slice_cmp}
use Rattle.std.specs.List.{AllZip, slice_get, starts_with}
use Rattle.std.specs.Option.{option_map_or}
use Rattle.std.specs.Ordering.{is_lt, nat_cmp}
use Rattle.std.specs.Prelude.{◌≡◌, ℕ, Bool, true, false, ◌&&◌, if◌then◌else◌, List, [], ◌∷◌, ◌++◌, length, Option, Some, String, IfSome, IsSomeAnd, map, nat_eq}
use Rattle.cycle.specs.Workflow.{Target}
use Rattle.cycle.specs.declared.verdict.Verdict.{Verdict}
use Rattle.folder.specs.Seen.{is_named}
use Rattle.measured.specs.Copied.{HasContentOf}
use Rattle.copies.specs.Paths.{Site}
use Rattle.system.specs.Blocked.{Obstacles}
use Rattle.update.specs.Copies.{AreSomeStored, AreStored, IsCopied, IsFlag, Kept, Placing, good_paths, is_blocked, is_free, is_good_at, may_have_copy}
use Rattle.update.specs.declared.installing.Decided.{Decided}
use Rattle.update.specs.declared.installing.Places.{Places}

-- the targets of paths
abbrev pub Lookup : Type 0
Lookup = List ℕ → Option Target

-- if there is a copy, then there is a target, of which the copy has bytes
abbrev pub IsCopyFor : {K : Type 0} → (K → List ℕ → Bool) → Option K → Option Target → Type 0
IsCopyFor took copy t = IfSome copy (λ file. IsSomeAnd t (HasContentOf (took file)))

-- the same of a copy behind a reference
abbrev pub IsLentFor : {K : Type 0} → (K → List ℕ → Bool) → Option (Bor K) → Option Target → Type 0
IsLentFor took copy t = IfSome copy (λ file. IsCopyFor took (Some file.now) t)

-- if a copy was stored, it is one of the target
abbrev pub IsStoredAs : List ℕ → Kept → List ℕ → Option Target → Bool → Type 0
IsStoredAs into keeps path t is_stored = is_stored ≡ true → IsSomeAnd t (IsCopied into keeps path)

-- the set has these paths and no others
abbrev pub HasPaths : {Y : Type 0} → BTreeSet (String Y) → List (List ℕ) → Type 0
HasPaths set paths = (path : List ℕ) → contains_text set path ≡ is_named paths path

-- Of the paths that were decided, the copies of these were stored, and of no others. Each has the
-- cause of its set.
pub record AreDecided (has_place blocked : List ℕ → Bool) (d : Decided) (done : List (List ℕ))
    : Type 0 where
  pub stored : HasPaths d.stored done
  pub placed : (path : List ℕ) → contains_text d.stored path ≡ true
      → IsFlag has_place blocked path true
  pub refused : (path : List ℕ) → contains_text d.refused path ≡ true
      → IsFlag has_place blocked path false

-- one path more, if its copy was stored
abbrev pub with_stored : List (List ℕ) → List ℕ → Bool → List (List ℕ)
with_stored done path flag = if flag then done ++ path ∷ [] else done

-- this path was decided too, for a cause
abbrev pub DecidesOne : Placing → Decided → Decided → List ℕ → Bool → Type 0
DecidesOne p old new path flag = (done : List (List ℕ))
    → AreDecided (is_free p.site.path p.state) (is_blocked p) old done
    → AreDecided (is_free p.site.path p.state) (is_blocked p) new (with_stored done path flag)
    × IsFlag (is_free p.site.path p.state) (is_blocked p) path flag

-- for each wanted path, whether its verdict is good and a copy may have it
pub record AreCandidates (wanted : List (List ℕ)) (verdicts : List Verdict) (flags : List Bool)
    : Type 0 where
  pub by_position : length flags ≡ length wanted
  pub each : (i : ℕ) (path : List ℕ) → slice_get wanted i ≡ Some path → slice_get flags i
      ≡ Some (is_good_at verdicts i && may_have_copy (good_paths wanted verdicts) path)

-- the texts, behind references
abbrev pub lent_texts : List (Bor (List ℕ)) → List (List ℕ)
lent_texts texts = map (λ text. text.now) texts

-- the text is before this one, by bytes
abbrev pub is_before : List ℕ → List ℕ → Bool
is_before start text = is_lt (slice_cmp nat_cmp text start)

-- there is a text at the index, and it begins with this one
abbrev pub begins_at : List ℕ → List (List ℕ) → ℕ → Bool
begins_at start texts i =
    option_map_or (λ text. starts_with nat_eq text start) (slice_get texts i) false

-- # The copies of wanted paths, of whose targets something is known by `found`.

-- there is a copy for each path, if there is one for a target
abbrev pub AreCopiesOf : {K : Type 0} → (K → List ℕ → Bool) → (List ℕ → Option Target)
    → List (List ℕ) → List (Option K) → Type 0
AreCopiesOf took found wanted copies = AllZip (IsCopyFor took) copies (map found wanted)

-- whatever the targets are, copies were stored as these flags say
abbrev pub AreInstalled : {K : Type 0} → (K → List ℕ → Bool) → List (Option K) → Placing
    → List (List ℕ) → List Verdict → Kept → Kept → List Bool → Type 0
AreInstalled took copies p wanted verdicts old new stored = (found : Lookup)
    → AreCopiesOf took found wanted copies → AreStored p found wanted verdicts stored old new

-- so were some of the first ones
abbrev pub AreSomeInstalled : {K : Type 0} → (K → List ℕ → Bool) → List (Option K) → Placing
    → List (List ℕ) → List Verdict → Kept → Kept → Type 0
AreSomeInstalled took copies p wanted verdicts old new = (found : Lookup)
    → AreCopiesOf took found wanted copies → AreSomeStored p found wanted verdicts old new

-- where copies are put by a value of the program
abbrev pub placing_of : {D : Type 0} → (D → Site) → Places D → Obstacles → Placing
placing_of site places obstacles =
    record { site = site places.to.now; obstacles = obstacles; state = places.state.now }
