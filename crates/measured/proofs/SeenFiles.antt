-- What is known of a folder's files at last, as what was seen of them.
use Rattle.std.proofs.Common.{◌≡◌, ℕ, List, All, Bool, true, Option, None, Some, is_some, IfSome, option_map, take, Result, Ok, Err, IfOk, refl, sym, ◌∙◌, ap, subst}
use Rattle.std.specs.BTreeMap.{get_by_text}
use Rattle.cycle.specs.Workflow.{Checks, Course, Files, Outcome, closed_by, target_checked}
use Rattle.folder.specs.Seen.{AreSeen, IsStartOf, MayBeSeen, Seen, Start}
use Rattle.folder.proofs.SeenFiles.{some_are_seen}
use Rattle.folder.specs.Measures.{IsMeasureOf, measure_of}
use Rattle.folder.specs.declared.measure.Measure.{Measure}
use Rattle.folder.specs.declared.measure.Need.{Need}
use Rattle.measured.specs.Closed.{IsClosed, IsKnownOf, IsMeasured, IsOfStart, is_found, measure_with}
use Rattle.measured.specs.Known.{IsCovered, IsKnown, IsWanted, MayBe, MayGive}
use Rattle.measured.specs.declared.known.Known.{Known}
use Rattle.measured.specs.declared.known.Wanted.{Wanted}

-- a file that begins with what was read has the measure
same_measure : (need : Need) (m : Measure) (read : Start) (file : Option (List ℕ)) → read.up_to ≡ need.up_to → m ≡ measure_with need.sha256 need.sha512 read.bytes
    → option_map (take read.up_to) file ≡ Some read.bytes → option_map (measure_of need) file ≡ Some m
same_measure need m read None far is begins = absurd (cc)
same_measure need m read (Some bytes) far is begins =
    ap (option_map (measure_with need.sha256 need.sha512)) (subst (λ n. option_map (take n) (Some bytes) ≡ Some read.bytes) far begins) ∙ ap Some (sym is)

module _ (found : Bool) (test : List ℕ → Bool) where
  -- what was read for a measure
  started : (need : Need) (m : Option Measure) → IfSome m (IsMeasureOf need test) → Option Start
  started need None h = None
  started need (Some m) h = Some (record { up_to = need.up_to; bytes = take need.up_to h.0 })

  start_of : (o : Option (Option Wanted)) → IfSome o (λ v. IfSome v (IsWanted found test)) → Option Start
  start_of None h = None
  start_of (Some None) h = None
  start_of (Some (Some w)) h = started w.need w.measure h.measure

  named_start : (need : Need) (m : Option Measure) (h : IfSome m (IsMeasureOf need test)) (there : Bool) → true ≡ there → IfSome (started need m h) (λ _. there ≡ true)
  unfolding started
  named_start need None h there is = tt
  named_start need (Some m) h there is = sym is

  named : (o : Option (Option Wanted)) (h : IfSome o (λ v. IfSome v (IsWanted found test))) (there : Bool) → is_some o ≡ there → IfSome (start_of o h) (λ _. there ≡ true)
  unfolding start_of
  named None h there is = tt
  named (Some None) h there is = tt
  named (Some (Some w)) h there is = named_start w.need w.measure h.measure there is

  held_start : (need : Need) (m : Option Measure) (h : IfSome m (IsMeasureOf need test)) → IfSome (started need m h) (λ r. IsStartOf test r.up_to r.bytes)
  unfolding started
  held_start need None h = tt
  held_start need (Some m) h = (h.0, h.1, refl)

  held : (o : Option (Option Wanted)) (h : IfSome o (λ v. IfSome v (IsWanted found test))) → IfSome (start_of o h) (λ r. IsStartOf test r.up_to r.bytes)
  unfolding start_of
  held None h = tt
  held (Some None) h = tt
  held (Some (Some w)) h = held_start w.need w.measure h.measure

  found_start : (need : Need) (m : Option Measure) (h : IfSome m (IsMeasureOf need test)) → found ≡ true → IfSome (started need m h) (λ _. found ≡ true)
  unfolding started
  found_start need None h is = tt
  found_start need (Some m) h is = is

  was_found : (o : Option (Option Wanted)) (h : IfSome o (λ v. IfSome v (IsWanted found test))) → IfSome (start_of o h) (λ _. found ≡ true)
  unfolding start_of
  was_found None h = tt
  was_found (Some None) h = tt
  was_found (Some (Some w)) h = found_start w.need w.measure h.measure h.is_found

  known_start : (need : Need) (m : Option Measure) (h : IfSome m (IsMeasureOf need test)) → IfSome m (λ n. IsOfStart need n (started need m h))
  unfolding started
  known_start need None h = tt
  known_start need (Some m) h = (refl, h.2)

  known : (o : Option (Option Wanted)) (h : IfSome o (λ v. IfSome v (IsWanted found test))) → IfSome o (λ v. IfSome v (λ w. IfSome w.measure (λ m. IsOfStart w.need m (start_of o h))))
  unfolding start_of
  known None h = tt
  known (Some None) h = tt
  known (Some (Some w)) h = known_start w.need w.measure h.measure

seen_of : (names : List (List ℕ)) (holds : List ℕ → List ℕ → Bool) (found : List ℕ → Bool) (k : Known) → IsKnown names holds found k → Seen
seen_of names holds found k known = record { names = names; read = λ name. start_of (found name) (holds name) (get_by_text k.files name) (known.wanted name) }

may_be_seen : (lists : List (List ℕ) → Bool) (names : List (List ℕ)) (holds : List ℕ → List ℕ → Bool) (found : List ℕ → Bool) (k : Known) (known : IsKnown names holds found k)
    → lists names ≡ true → MayBeSeen lists holds (seen_of names holds found k known)
unfolding seen_of
may_be_seen lists names holds found k known listed = record {
  listed = listed;
  named = λ name. named (found name) (holds name) (get_by_text k.files name) (known.wanted name) _ (known.named name);
  held = λ name. held (found name) (holds name) (get_by_text k.files name) (known.wanted name);
}

known_of : (names : List (List ℕ)) (holds : List ℕ → List ℕ → Bool) (found : List ℕ → Bool) (k : Known) (is : IsKnown names holds found k) → IsKnownOf (seen_of names holds found k is) k
unfolding seen_of
known_of names holds found k is = record { names = is.named; measures = λ name. known (found name) (holds name) (get_by_text k.files name) (is.wanted name) }

found_in : (names : List (List ℕ)) (holds : List ℕ → List ℕ → Bool) (found : List ℕ → Bool) (k : Known) (is : IsKnown names holds found k) (name : List ℕ)
    → IfSome ((seen_of names holds found k is).read name) (λ _. found name ≡ true)
unfolding seen_of
found_in names holds found k is name = was_found (found name) (holds name) (get_by_text k.files name) (is.wanted name)

pub measured : (lists : List (List ℕ) → Bool) (holds : List ℕ → List ℕ → Bool) (names : List (List ℕ)) (k : Known) (course : Course)
    → lists names ≡ true → IsKnown names holds (is_found course.trusted.root.reading.consistent course.searches) k
    → All (IsCovered k course.trusted.root.reading.consistent) course.searches → IsMeasured lists holds course k
measured lists holds names k course listed is covered =
    let found = is_found course.trusted.root.reading.consistent course.searches in
    let may = may_be_seen lists names holds found k is listed in
    let some = some_are_seen lists holds _ may in
    record {
      seen = seen_of names holds found k is;
      may_be_seen = may;
      found = found_in names holds found k is;
      known = known_of names holds found k is;
      covered = covered;
      files = some.0;
      are_seen = some.1;
    }

-- ---- files that are seen so have the measures

as_read : (need : Need) (m : Option Measure) (read : Option Start) (file : Option (List ℕ)) → IfSome m (λ n. IsOfStart need n read)
    → IfSome read (λ r. option_map (take r.up_to) file ≡ Some r.bytes) → IfSome m (λ n. option_map (measure_of need) file ≡ Some n)
as_read need None read file h begins = tt
as_read need (Some m) None file h begins = absurd h
as_read need (Some m) (Some r) file h begins = same_measure need m r file h.0 h.1 begins

all_as_read : (o : Option (Option Wanted)) (read : Option Start) (file : Option (List ℕ)) → IfSome o (λ v. IfSome v (λ w. IfSome w.measure (λ m. IsOfStart w.need m read)))
    → IfSome read (λ r. option_map (take r.up_to) file ≡ Some r.bytes)
    → IfSome o (λ v. IfSome v (λ w. IfSome w.measure (λ m. option_map (measure_of w.need) file ≡ Some m)))
all_as_read None read file h begins = tt
all_as_read (Some None) read file h begins = tt
all_as_read (Some (Some w)) read file h begins = as_read w.need w.measure read file h begins

may_be : (k : Known) (s : Seen) (files : Files) → IsKnownOf s k → AreSeen s files → MayBe k files
may_be k s files known are = record {
  names = λ name. are.names name ∙ sym (known.names name);
  measures = λ name. all_as_read (get_by_text k.files name) (s.read name) (files name) (known.measures name) (are.bytes name);
}

closed : (course : Course) (k : Known) (o : Outcome) → ((checks : Checks) → MayGive k checks → o ≡ closed_by checks course) → IsClosed course k o
closed course k o outcome s known files are = outcome (target_checked files) (record { files = files; may_be = may_be k s files known are; are = refl })

-- of what a call returns
pub closed_if : {E : Type 0} (course : Course) (k : Known) (r : Result Outcome E) → IfOk r (λ o. (checks : Checks) → MayGive k checks → o ≡ closed_by checks course)
    → IfOk r (IsClosed course k)
closed_if course k (Ok o) h = closed course k o h
closed_if course k (Err e) h = tt
