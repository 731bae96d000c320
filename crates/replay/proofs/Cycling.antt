-- The outcomes of cycles, one after the other.
use Rattle.std.proofs.Common.{◌≡◌, ◌∙◌, Global, Result, Ok, Err, IfOk, OnOk, List, [], ◌∷◌, ◌++◌, ℕ, Bool, Option, String, true, ◌+◌, ap, length, length-append, map, refl, string_bytes, subst, sym}
use Rattle.std.specs.List.{AllZip}
use Rattle.std.specs.Io.KnownBytes.{Appends}
use Rattle.cycle.specs.Workflow.{Course, Files}
use Rattle.examine.specs.Checks.{file_in}
use Rattle.lookups.specs.Lookups.{IsCourseOn, IsPart, IsSettledOn}
use Rattle.lookups.specs.declared.metadata.Metadata.{Metadata}
use Rattle.lookups.proofs.Settling.{course_on, read_files}
use Rattle.measured.specs.Closed.{IsMeasured}
use Rattle.measured.specs.declared.known.Known.{Known}
use Rattle.report.specs.Lines.{cycles_text, last_status}
use Rattle.report.specs.declared.told.Told.{Told}
use Rattle.folder.specs.Folders.{Giving, IsSameFolder}
use Rattle.replay.specs.Cycles.{AreStored, ArePrinted, AreToldOn, IsToldOn, after, first_of, from_state, last_state}
use Rattle.update.specs.Opened.{IsToldBy}
use Rattle.update.specs.Runs.{IsOutcomeOn, MayBeSeen, Outcome, Request, Seen, State, state_text, why_text}
use Rattle.update.specs.Same.{IsSame}
use Rattle.update.specs.World.{Mirror}
use Rattle.update.specs.declared.start.Detail.{Detail}
use Rattle.update.specs.declared.start.Start as program
use Rattle.update.proofs.Storing.{closed_outcome, why_told}

-- ---- one cycle more

last_more : (s : Request) (ts : List Told) (t : Told) → last_state s (ts ++ t ∷ []) ≡ t.outcome.trusted
last_more s [] t = refl
last_more s (p ∷ ts) t = last_more (after s p.outcome) ts t

pub state_more : (s : Request) (ts all : List Told) (t : Told) (later : State) → later ≡ t.outcome.trusted → all ≡ ts ++ t ∷ [] → later ≡ last_state s all
state_more s ts all t later is all_is = is ∙ sym (last_more s ts t) ∙ sym (ap (last_state s) all_is)

pub cycle_more : (d : Detail) (s : Request) (ms : List Mirror) (m : Mirror) (ts all : List Told) (t : Told) (now : State)
    → AreToldOn d ms s ts → now ≡ last_state s ts → IsToldOn d m (from_state s now) t → all ≡ ts ++ t ∷ [] → AreToldOn d (ms ++ m ∷ []) s all
cycle_more d s ms m ts all t now before state is all_is =
    subst (λ l. AreToldOn d (ms ++ m ∷ []) s l) (sym all_is) (more s ms ts before (subst (λ k. IsToldOn d m (from_state s k) t) state is))
  where
    more : (s : Request) (ms : List Mirror) (ts : List Told) → AreToldOn d ms s ts → IsToldOn d m (from_state s (last_state s ts)) t → AreToldOn d (ms ++ m ∷ []) s (ts ++ t ∷ [])
    more s [] [] h one = (one, tt)
    more s [] (p ∷ ts) h one = absurd h
    more s (n ∷ ms) [] h one = absurd h
    more s (n ∷ ms) (p ∷ ts) h one = (h.0, more (after s p.outcome) ms ts h.1 one)

pub counted_more : {A B : Type 0} (xs : List A) (ys : List B) (x : A) (y : B) → length xs ≡ length ys → length (xs ++ x ∷ []) ≡ length (ys ++ y ∷ [])
counted_more xs ys x y is = length-append xs (x ∷ []) ∙ ap (λ n. n + 1) is ∙ sym (length-append ys (y ∷ []))

pub none_yet : (d : Detail) (s : Request) (ts : List Told) → ts ≡ [] → AreToldOn d [] s ts
none_yet d s ts is = subst (AreToldOn d [] s) (sym is) tt

-- ---- the state after the cycles, with the wanted paths by another name

module _ (ms : List Mirror) (s : program.Start) (paths wanted : List (String Global)) (keeps : List ℕ → Bool) (ts : List Told) (same : paths ≡ wanted)
    (are : AreToldOn s.detail ms (first_of s paths) ts) (kept : keeps (state_text (last_state (first_of s paths) ts)) ≡ true) where
  -- it is stored, and more holds of what is told of them
  pub replayed : (P : List Told → Type 0) → P ts → AreStored s.detail ms (first_of s wanted) keeps P
  replayed P then = record {
    told = ts;
    of_cycles = subst (λ (l : List (String Global)). AreToldOn s.detail ms (first_of s l) ts) same are;
    kept = subst (λ (l : List (String Global)). keeps (state_text (last_state (first_of s l) ts)) ≡ true) same kept;
    then = then;
  }

  -- and their lines were printed
  pub replayed_printed : {E : Type 0} (old new : Option (List ℕ)) (r : Result ℕ E) → IfOk r (λ status. ArePrinted ts (map string_bytes paths) status old new)
      → IfOk r (λ status. AreStored s.detail ms (first_of s wanted) keeps (λ ts. ArePrinted ts (map string_bytes wanted) status old new))
  replayed_printed old new (Ok status) lines = replayed _ (subst (λ (l : List (String Global)). ArePrinted ts (map string_bytes l) status old new) same lines)
  replayed_printed old new (Err e) lines = tt

-- ---- folders that stay what they were

abbrev outcome_before : (m n : Mirror) (r : Request) (o : Outcome) → IsSame m n → IsOutcomeOn n r o → IsOutcomeOn m r o
outcome_before m n r o same is = record {
  metadata = is.metadata;
  looked_up = record {
    may_be_seen = before m.metadata n.metadata same.metadata is.metadata is.looked_up.may_be_seen;
    starts = is.looked_up.starts;
  };
  targets = is.targets;
  may_be_seen = before m.targets n.targets same.targets is.targets is.may_be_seen;
  of_files = is.of_files;
}
  where
    before : (a b : Giving) → IsSameFolder a b → (seen : Seen) → MayBeSeen b.lists b.holds seen → MayBeSeen a.lists a.holds seen
    before a b same seen may = subst (λ h. MayBeSeen a.lists h seen) same.holds (subst (λ l. MayBeSeen l b.holds seen) same.lists may)

pub told_before : (d : Detail) (m n : Mirror) (r : Request) (t : Told) → IsSame m n → IsToldOn d n r t → IsToldOn d m r t
told_before d m n r t same is = record { of_workflow = outcome_before m n r t.outcome same is.of_workflow; why = is.why }

pub all_before : (d : Detail) (ms ns : List Mirror) (s : Request) (ts : List Told) → AllZip IsSame ms ns → AreToldOn d ns s ts → AreToldOn d ms s ts
all_before d [] [] s ts h are = are
all_before d [] (n ∷ ns) s ts h are = absurd h
all_before d (m ∷ ms) [] s ts h are = absurd h
all_before d (m ∷ ms) (n ∷ ns) s [] h are = absurd are
all_before d (m ∷ ms) (n ∷ ns) s (t ∷ ts) h are = (told_before d m n s t h.0 are.0, all_before d ms ns (after s t.outcome) ts h.1 are.1)

-- ---- the lines

-- the lines and the last status of an answer
pub printed_all : {E : Type 0} (ts : List Told) (wanted : List (List ℕ)) (old new : Option (List ℕ)) (r : Result ℕ E)
    → OnOk r (Appends old new (cycles_text wanted ts)) → IfOk r (λ status. status ≡ last_status ts)
    → IfOk r (λ status. ArePrinted ts wanted status old new)
printed_all ts wanted old new (Ok status) lines answered = record { lines = lines; answered = answered }
printed_all ts wanted old new (Err e) lines answered = tt

-- ---- what is told of a course that no other metadata files change

pub told_on : (d : Detail) (m : Mirror) (later : Metadata) (r : Request) (c : Course) (stop : List ℕ) (k : Known) (t : Told)
    → IsPart m.metadata later → IsSettledOn r later c → IsMeasured m.targets.lists m.targets.holds c k
    → stop ≡ why_text d (file_in later.repo.metadata) r.moment c.trusted c.end → IsToldBy d c stop k t → IsToldOn d m r t
told_on d m later r c stop k t part settled measured is told =
    let on : IsCourseOn m.metadata r c = course_on m.metadata later part r c settled in
    record {
      of_workflow = closed_outcome m m.targets r c k t.outcome on refl refl measured told.outcome;
      why = why_told d m.metadata m.targets.lists m.targets.holds r c stop k t on measured told
          (subst (λ (l : Files). stop ≡ why_text d l r.moment c.trusted c.end) (read_files m.metadata later part) is);
    }
