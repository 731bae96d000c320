-- A verification from a start: a course that is followed, and ended by the target files.
use Rattle.std.proofs.Common.{◌≡◌, ◌≢◌, ◌∙◌, ◌⊎◌, ap, inl, inr, Global, Result, Ok, Err, IfErr, IfOk, OnErr, OnOk, List, [], ℕ, Bool, String, Vec, Option, length, map, string_bytes, true, subst, sym}
use Rattle.std.proofs.lemmas.List.{length-map}
use Rattle.copies.specs.Paths.{IsSameAt, Site}
use Rattle.cycle.specs.Workflow.{Course, Files, Outcome, course}
use Rattle.examine.specs.Checks.{file_in}
use Rattle.measured.specs.Closed.{IsMeasured}
use Rattle.measured.specs.declared.known.Known.{Known}
use Rattle.report.specs.declared.told.Told.{Told}
use Rattle.cycle.specs.declared.verdict.Verdict.{Verdict}
use Rattle.measured.specs.Copied.{AreCopiesFor}
use Rattle.failure.specs.declared.failure.Failure.{Failure}
use Rattle.failure.specs.declared.failure.Failure.TheVariants as failure
use Rattle.system.specs.Blocked.{Obstacles}
use Rattle.update.specs.Copies.{AreBegun, AreSomeStored, AreStored, IsPrintedInto, IsPrintedWith, Kept, OutsideKept, Placing, target_for}
use Rattle.folder.specs.Folders.{Giving, IsSameFolder}
use Rattle.folder.proofs.Sameness.{same_trans}
use Rattle.lookups.specs.Lookups.{Grows, IsPart, IsSettledOn, files_read}
use Rattle.lookups.specs.declared.metadata.Metadata.{Metadata}
use Rattle.lookups.proofs.Reading.{part_before}
use Rattle.lookups.proofs.Settling.{course_on, read_files, stays}
use Rattle.paths.specs.Names.{ArePathsOf}
use Rattle.update.specs.Opened.{AreListed, IsFollowedOn, IsToldBy, paths_from, paths_of}
use Rattle.update.specs.Runs.{AreWanted, IsStored, IsStoredOn, IsPrinted, IsPrintedOf, Request, Seen, State, start_of, state_text, why_of, why_text}
use Rattle.update.specs.Same.{IsSame}
use Rattle.update.specs.Stored.{AreCopiesOf, AreInstalled, AreSomeInstalled, Lookup}
use Rattle.update.specs.World.{Mirror, OthersKept}
use Rattle.update.specs.declared.following.Followed.{Followed}
use Rattle.update.specs.declared.start.Opened.{Opened}
use Rattle.update.specs.declared.start.Start as program
use Rattle.update.specs.declared.start.Wanted.{Wanted}
use Rattle.update.specs.declared.start.Wanted.TheVariants.{Every}
use Rattle.update.proofs.Copied.{copies_of, stored_since}
use Rattle.update.proofs.Storing.{closed_outcome, why_told}

-- ---- what is neither the state nor below the folder for copies

pub outside_same : (into state : List ℕ) (old new : Kept) → new ≡ old → OutsideKept into state old new
outside_same into state old new same place isnt none bytes = ap (λ (k : Kept). k place bytes) same

pub outside_stored : (into state : List ℕ) (old new : Kept) → OthersKept state old new → OutsideKept into state old new
outside_stored into state old new others place isnt none bytes = others place bytes isnt

pub outside_then : (into state : List ℕ) (old mid new : Kept) → OthersKept state old mid → OutsideKept into state mid new → OutsideKept into state old new
outside_then into state old mid new others outside place isnt none bytes = outside place isnt none bytes ∙ others place bytes isnt

pub ruleset outside = (outside_same, outside_stored, outside_then)

-- what was stored as the state still is
pub still_stored : (mid after : Kept) (place text : List ℕ) → IsSameAt place mid after → mid place text ≡ true → after place text ≡ true
still_stored mid after place text same kept = same text ∙ kept

-- ---- the course

pub followed : (m : Mirror) (a b : Giving) (s : program.Start) (wanted : Wanted) (o : Opened) (later : Metadata) (f : Followed) (r : Request) (p : List (String Global))
    → IsSameFolder m.metadata a → IsSameFolder a b → m.targets.lists (map string_bytes o.names.items) ≡ true → f.names ≡ o.names → p ≡ paths_from wanted f.listed.items
    → r ≡ start_of s (map string_bytes p) → IsPart b later → Grows o.metadata later → IsSettledOn r later f.course → AreListed a s wanted o f.listed.items
    → string_bytes f.stop ≡ why_text s.detail (file_in later.repo.metadata) s.moment f.course.trusted f.course.end → IsFollowedOn m s wanted f
followed m a b s wanted o later f r p first second names same is requested part grows settled are stop =
    let paths = paths_of wanted f in
    let there : IsSettledOn (start_of s paths) later f.course =
    subst (λ (l : List (String Global)). IsSettledOn (start_of s (map string_bytes l)) later f.course) is (subst (λ q. IsSettledOn q later f.course) requested settled) in
    let list = λ (l : Vec (String Global) Global). map string_bytes l.items in
    let here : IsPart m.metadata later = part_before m.metadata b later (same_trans m.metadata a b first second) part in
    record {
      names = subst (λ l. m.targets.lists (list l) ≡ true) (sym same) names;
      are_wanted = subst (λ (k : Course). AreWanted wanted k.trusted.root.reading.consistent (list f.names) paths) (sym there.same)
          (subst (λ l. AreWanted wanted (course (start_of s paths) (file_in later.repo.metadata)).trusted.root.reading.consistent (list l) paths) (sym same)
          (are later (part_before a b later second part) grows));
      of_request = course_on m.metadata later here (start_of s paths) f.course there;
      stop = subst (λ (l : Files). string_bytes f.stop ≡ why_text s.detail l s.moment f.course.trusted f.course.end) (read_files m.metadata later here) stop;
    }

-- the paths of names, by a course that more files don't change
pub listed_by : (g : Giving) (s : program.Start) (o : Opened) (c : Course) (r : Request) (listed : List (String Global)) → r ≡ start_of s [] → IsSettledOn r o.metadata c
    → ArePathsOf c.trusted.root.reading.consistent (map string_bytes o.names.items) (map string_bytes listed) → AreListed g s Every o listed
listed_by g s o c r listed requested settled are later part grows =
    subst (λ (k : Course). ArePathsOf k.trusted.root.reading.consistent (map string_bytes o.names.items) (map string_bytes listed))
    (sym (stays g (start_of s []) o.metadata later c (subst (λ q. IsSettledOn q o.metadata c) requested settled) part grows)) are

-- ---- where copies are put

abbrev pub placed_in : Site → Obstacles → List ℕ → Placing
placed_in site obstacles state = record { site = site; obstacles = obstacles; state = state }

-- ---- its end

module _ (m n : Mirror) (s : program.Start) (wanted : Wanted) (f : Followed) (k : Known) (t : Told) (keeps : List ℕ → Bool) (trusted : State)
    (d : IsFollowedOn m s wanted f) (same : IsSame m n) (measured : IsMeasured n.targets.lists n.targets.holds f.course k) (told : IsToldBy s.detail f.course (string_bytes f.stop) k t)
    (state : trusted ≡ t.outcome.trusted) (kept : keeps (state_text trusted) ≡ true) where
  abbrev metadata : Files
  metadata = files_read d.of_request.seen

  pub stored : (follows : Request → Files → Seen → Outcome → Type 0) → follows (start_of s (paths_of wanted f)) metadata measured.seen t.outcome → IsStoredOn m s wanted keeps follows
  stored follows then =
      let paths = paths_of wanted f in
      let names : List (List ℕ) = map string_bytes f.names.items in
      let ended : t.outcome.trusted ≡ f.course.trusted = ap (λ (x : Outcome). x.trusted) (told.outcome measured.seen measured.known measured.files measured.are_seen) in
      record {
        names = names;
        listed = d.names;
        paths = paths;
        outcome = t.outcome;
        are_wanted = subst (λ (x : State). AreWanted wanted x.root.reading.consistent names paths) (sym ended) d.are_wanted;
        of_workflow = closed_outcome m n.targets (start_of s paths) f.course k t.outcome d.of_request same.targets.lists same.targets.holds measured told.outcome;
        kept = subst (λ (x : State). keeps (state_text x) ≡ true) state kept;
        then = then;
      }

  -- what says why is what was told
  why_is : t.why ≡ why_of s.detail (start_of s (paths_of wanted f)) metadata measured.seen t.outcome
  why_is = why_told s.detail m.metadata n.targets.lists n.targets.holds (start_of s (paths_of wanted f)) f.course (string_bytes f.stop) k t d.of_request measured told d.stop

  -- and its lines were printed
  pub stored_printed : {E : Type 0} (old new : Option (List ℕ)) (p : List (String Global)) (r : Result ℕ E) → p ≡ paths_from wanted f.listed.items
      → IfOk r (λ status. IsPrinted t.outcome t.why (map string_bytes p) status old new) → IfOk r (λ status. IsStoredOn m s wanted keeps (IsPrintedOf s.detail old new status))
  stored_printed old new p (Ok status) is lines = stored (IsPrintedOf s.detail old new status)
      (subst (λ w. IsPrinted t.outcome w (paths_of wanted f) status old new) why_is (subst (λ (l : List (String Global)). IsPrinted t.outcome t.why (map string_bytes l) status old new) is lines))
  stored_printed old new p (Err e) is lines = tt

  -- ---- and copies were stored, of the paths by another name

  module _ {K : Type 0} (given p : Placing) (same_placing : given ≡ p) (placed : p.state ≡ s.state.now)
      (took : K → List ℕ → Bool) (l : List (String Global)) (copies lent : List (Option K)) (verdicts : List Verdict) (mid before after : Kept)
      (paths : l ≡ paths_from wanted f.listed.items) (copies_are : lent ≡ copies) (verdicts_are : verdicts ≡ t.outcome.verdicts)
      (only : (place : List ℕ) → place ≢ s.state.now → IsSameAt place before mid)
      (for_course : AreCopiesFor took copies f.course.searches) where
    abbrev request : Request
    request = start_of s (paths_of wanted f)

    others : (place : List ℕ) → place ≢ p.state → IsSameAt place before mid
    others place isnt = only place (λ is. isnt (is ∙ sym placed))

    -- what holds whatever the targets are holds of those of the searches
    as_found : (P : Placing → Lookup → List (List ℕ) → List Verdict → Type 0)
        → ((found : Lookup) → AreCopiesOf took found (map string_bytes l) lent → P given found (map string_bytes l) verdicts)
        → P p (target_for request metadata) (paths_of wanted f) t.outcome.verdicts
    as_found P copied =
        let all = paths_of wanted f in
        let same_paths : map string_bytes l ≡ all = ap (map string_bytes) paths in
        let found = target_for request metadata in
        let are = copies_of took copies request metadata f.course d.of_request.on_read for_course in
        subst (λ z. P z found all t.outcome.verdicts) same_placing
        (subst (λ v. P given found all v) verdicts_are
        (subst (λ q. P given found q verdicts) same_paths
        (copied found (subst (λ q. AreCopiesOf took found q lent) (sym same_paths) (subst (AreCopiesOf took found all) (sym copies_are) are)))))

    all_stored : (stored : List Bool) → AreInstalled took lent given (map string_bytes l) verdicts mid after stored
        → AreStored p (target_for request metadata) (paths_of wanted f) t.outcome.verdicts stored before after
    all_stored stored copied = stored_since p _ (paths_of wanted f) t.outcome.verdicts stored before mid after others
        (as_found (λ z found q v. AreStored z found q v stored mid after) copied)

    pub stored_into : {E : Type 0} (old new : Option (List ℕ)) (r : Result ℕ E) (stored flags : List Bool) → flags ≡ stored → length stored ≡ length l
        → AreInstalled took lent given (map string_bytes l) verdicts mid after stored
        → IfOk r (λ status. IsPrintedWith t.outcome t.why (map string_bytes l) flags status old new)
        → IfOk r (λ status. IsStoredOn m s wanted keeps (IsPrintedInto s.detail p old new before after status))
    stored_into old new (Ok status) list flags same count copied lines = stored (IsPrintedInto s.detail p old new before after status) (record {
      stored = list;
      by_position = count ∙ sym (length-map l string_bytes) ∙ ap (λ (q : List (String Global)). length (map string_bytes q)) paths;
      are_stored = all_stored list copied;
      is_printed = subst (λ w. IsPrintedWith t.outcome w (paths_of wanted f) list status old new) why_is
          (subst (λ q. IsPrintedWith t.outcome t.why q list status old new) (ap (map string_bytes) paths)
          (subst (λ x. IsPrintedWith t.outcome t.why (map string_bytes l) x status old new) same lines));
    })
    stored_into old new (Err e) list flags same count copied lines = tt

    pub begun_into : AreSomeInstalled took lent given (map string_bytes l) verdicts mid after → IsStoredOn m s wanted keeps (AreBegun p before after)
    begun_into copied =
        let some = as_found (λ z found q v. AreSomeStored z found q v mid after) copied in
        stored (AreBegun p before after) (some.0, stored_since p _ (paths_of wanted f) t.outcome.verdicts some.0 before mid after others some.1)

    -- all of them, though the lines were not printed
    pub all_begun : (list : List Bool) → AreInstalled took lent given (map string_bytes l) verdicts mid after list → IsStoredOn m s wanted keeps (AreBegun p before after)
    all_begun list copied = stored (AreBegun p before after) (list, all_stored list copied)

-- where copies are put, if neither the folder nor the obstacles changed
pub same_placing : (site later : Site) (obstacles after : Obstacles) (state : List ℕ) → later ≡ site → after ≡ obstacles
    → placed_in later after state ≡ placed_in site obstacles state
same_placing site later obstacles after state same still =
    subst (λ l. placed_in l after state ≡ placed_in site obstacles state) (sym same)
    (ap (λ o. placed_in site o state) still)

-- ---- why it fails

-- a failure that is out of memory, or an output error
pub wrote : {A : Type 0} (P : Failure → Type 0) (r : Result A Failure) → IfErr r (λ f. (f ≡ failure.Memory) ⊎ (f ≡ failure.Output)) → P failure.Memory → P failure.Output → IfErr r P
wrote P (Ok x) either memory output = tt
wrote P (Err f) (inl is) memory output = subst P (sym is) memory
wrote P (Err f) (inr is) memory output = subst P (sym is) output

-- the same of a result that is this error
pub wrote_err : {A : Type 0} (P : Failure → Type 0) (r : Result A Failure) (f : Failure) → r ≡ Err f → (f ≡ failure.Memory) ⊎ (f ≡ failure.Output)
    → P failure.Memory → P failure.Output → IfErr r P
wrote_err P r f is either memory output = wrote P r (subst (λ r. IfErr r (λ f. (f ≡ failure.Memory) ⊎ (f ≡ failure.Output))) (sym is) either) memory output

-- what holds of an error holds of a result that is this error
pub carried : {A : Type 0} (P : Failure → Type 0) (r : Result A Failure) (e : Failure) → r ≡ Err e → P e → IfErr r P
carried P r e is p = subst (λ r. IfErr r P) (sym is) p

-- ---- what the words name

pub ok_if : {A E P : Type 0} (r : Result A E) → P → OnOk r P
ok_if (Ok x) p = p
ok_if (Err e) p = tt

pub then_err : {A E P Q : Type 0} (r : Result A E) → (P → Q) → OnErr r P → OnErr r Q
then_err (Ok x) f h = tt
then_err (Err e) f h = f h

-- the same, for the place of the state, the folder and what was stored by other names
pub begun_as : (ms : List Mirror) (s : program.Start) (wanted : Wanted) (keeps : List ℕ → Bool) (site : Site) (began ended : Obstacles) (state : List ℕ) (before first new : Kept)
    → s.state.now ≡ state → ended ≡ began → before ≡ first
    → IsStored ms s wanted keeps (AreBegun (record { site = site; obstacles = ended; state = s.state.now }) before new)
    → IsStored ms s wanted keeps (AreBegun (record { site = site; obstacles = began; state = state }) first new)
begun_as ms s wanted keeps site began ended state before first new place obstacles kept h =
    subst (λ z. IsStored ms s wanted keeps (AreBegun (record { site = site; obstacles = began; state = z }) first new)) place
    (subst (λ k. IsStored ms s wanted keeps (AreBegun (record { site = site; obstacles = k; state = s.state.now }) first new)) obstacles
    (subst (λ b. IsStored ms s wanted keeps (AreBegun (record { site = site; obstacles = ended; state = s.state.now }) b new)) kept h))
