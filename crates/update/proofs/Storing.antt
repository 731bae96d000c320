-- What a verification stores, out of what its steps did.
use Rattle.std.proofs.Common.{◌≡◌, ◌∙◌, ap, Result, Ok, Err, IfSome, OnErr, List, Option, ℕ, Bool, true, subst, sym}
use Rattle.cycle.specs.Workflow.{Course, Outcome, closed_course, course}
use Rattle.measured.specs.Closed.{IsClosed, IsKnownOf, IsMeasured, is_found}
use Rattle.measured.specs.declared.known.Known.{Known}
use Rattle.folder.specs.Folders.{Giving}
use Rattle.folder.specs.Seen.{MayBeSeen}
use Rattle.folder.proofs.SeenFiles.{some_are_seen}
use Rattle.lookups.specs.Lookups.{IsCourseOn, files_read}
use Rattle.report.specs.Lines.{Whys}
use Rattle.report.specs.declared.told.Told.{Told}
use Rattle.update.specs.Opened.{IsToldBy}
use Rattle.update.specs.Runs.{IsOutcomeIn, IsOutcomeOn, Mirror, Request, Seen, path_texts, why_of, why_text}
use Rattle.update.specs.declared.start.Detail.{Detail}

-- what holds anyway holds after a failure
pub after_failure : {A E : Type 0} {P : Type 0} (r : Result A E) → P → OnErr r P
after_failure (Ok x) p = tt
after_failure (Err e) p = p

-- the outcome of a course whose target files were measured
pub closed_in : (g : Giving) (lists : List (List ℕ) → Bool) (holds : List ℕ → List ℕ → Bool) (r : Request) (c : Course) (k : Known) (o : Outcome) (on : IsCourseOn g r c)
    (h : IsMeasured lists holds c k) → IsClosed c k o → IsOutcomeIn r on.seen h.seen o
closed_in g lists holds r c k o on h closed =
    let some = some_are_seen g.lists g.holds on.seen on.looked_up.may_be_seen in
    record {
      outcome = λ repo am at. closed h.seen h.known repo.targets at ∙ ap (closed_course repo.targets) (on.on_all repo.metadata am);
      only_found = subst (λ (k : Course). (name : List ℕ) → IfSome (h.seen.read name) (λ _. is_found k.trusted.root.reading.consistent k.searches name ≡ true)) on.on_read h.found;
      repo = record { metadata = some.0; targets = h.files };
      are_metadata = some.1;
      are_targets = h.are_seen;
    }

-- the same on a repository, whose target files were read later
abbrev pub closed_outcome : (m : Mirror) (later : Giving) (r : Request) (c : Course) (k : Known) (o : Outcome) → IsCourseOn m.metadata r c
    → later.lists ≡ m.targets.lists → later.holds ≡ m.targets.holds → IsMeasured later.lists later.holds c k → IsClosed c k o → IsOutcomeOn m r o
closed_outcome m later r c k o on lists holds h closed = record {
  metadata = on.seen;
  looked_up = on.looked_up;
  targets = h.seen;
  may_be_seen = subst (λ k. MayBeSeen m.targets.lists k h.seen) holds (subst (λ l. MayBeSeen l later.holds h.seen) lists h.may_be_seen);
  of_files = closed_in m.metadata later.lists later.holds r c k o on h closed;
}

-- ---- what says why

abbrev whys : List ℕ → Option (List (List ℕ)) → Whys
whys stop paths = record { stop = stop; paths = paths }

pub why_told : (d : Detail) (g : Giving) (lists : List (List ℕ) → Bool) (holds : List ℕ → List ℕ → Bool) (r : Request) (c : Course) (stop : List ℕ) (k : Known) (t : Told)
    (on : IsCourseOn g r c) (h : IsMeasured lists holds c k) → IsToldBy d c stop k t → stop ≡ why_text d (files_read on.seen) r.moment c.trusted c.end
    → t.why ≡ why_of d r (files_read on.seen) h.seen t.outcome
why_told d g lists holds r c stop k t on h told is =
    let metadata = files_read on.seen in
    told.why h.seen h.known
    ∙ ap (λ (w : List ℕ). whys w (path_texts d h.seen c)) is
    ∙ ap (λ (e : Course). whys (why_text d metadata r.moment c.trusted c.end) (path_texts d h.seen e)) on.on_read
    ∙ ap (λ (o : Outcome). whys (why_text d metadata r.moment o.trusted o.end) (path_texts d h.seen (course r metadata))) (sym (told.outcome h.seen h.known h.files h.are_seen))

-- by the outcome of its course, and what is said of its paths
pub told_by : (d : Detail) (c : Course) (stop : List ℕ) (k : Known) (t : Told) (paths : Option (List (List ℕ))) → IsClosed c k t.outcome → t.why ≡ whys stop paths
    → ((targets : Seen) → IsKnownOf targets k → paths ≡ path_texts d targets c) → IsToldBy d c stop k t
told_by d c stop k t paths closed is texts = record { outcome = closed; why = λ targets known. is ∙ ap (whys stop) (texts targets known) }
