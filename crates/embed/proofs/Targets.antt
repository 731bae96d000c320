-- What is given of target files.
use Rattle.std.proofs.Common.{◌≡◌, ℕ, ◌+◌, ◌==◌, ◌&&◌, ◌||◌, not, List, [], ◌∷◌, Option, None, Some, IfSome, Bool, true, false, cond, bytes_eq, fold, map, option_map, All, String, Global, BTreeMap, string_bytes, refl, sym, ap, ◌∙◌, subst, Result, Err}
use Rattle.std.specs.Prelude.{⊤}
use Rattle.std.specs.Map.{lookup}
use Rattle.std.specs.Cmp.Lexicographic.{slice_cmp}
use Rattle.std.specs.Ordering.{nat_cmp}
use Rattle.std.specs.BTreeMap.{get_by_text, is_at, Updates}
use Rattle.std.specs.Option.{option_map_or}
use Rattle.std.proofs.Math.Path.{fun_ext}
use Rattle.std.proofs.lemmas.Map.Text.{btree_map_updates_text}
use Rattle.std.specs.String.{string_cmp}
use Rattle.std.proofs.lemmas.List.Elements.{All-head, All-tail}
use Rattle.cjson.specs.Document.{◌>>=◌, or_refuse, refuse_if}
use Rattle.keys.specs.Keys.{digest_by}
use Rattle.keys.specs.declared.judge.Algorithm.TheVariants.{Sha256, Sha512}
use Rattle.meta.specs.Content.{content, differs, has_no_known_hash}
use Rattle.meta.specs.declared.fault.Fault.TheVariants.{HashWrong, LengthWrong, NoKnownHash}
use Rattle.deleg.specs.declared.accepted.Search.{Search}
use Rattle.deleg.specs.declared.found.Found.{Found}
use Rattle.deleg.specs.declared.found.Found.TheVariants as found
use Rattle.examine.specs.Checks.{Target, Missing, first_there, target_names}
use Rattle.cycle.specs.Workflow.{Checks, Course, Fault, Outcome, closed_by, found_verdict, gathered, listed_target, listed_verdict, target_checked, target_of, verdict_of}
use Rattle.cycle.specs.declared.verdict.Verdict.{Verdict}
use Rattle.embed.specs.declared.held.Held.{Held}
use Rattle.embed.specs.declared.held.Held.TheVariants as held
use Rattle.embed.specs.declared.job.Digests.{Digests}
use denote.Ref.{Bor}
use Rattle.embed.specs.declared.job.File.{File}
use Rattle.embed.specs.declared.job.Job.{Job}
use Rattle.embed.specs.Jobs.{Agrees, AreCovered, AreGiven, AreTargets, Files, Given, Givens, Measured, Whole, covers, differs_from, files_of, first_given, given_checked, given_content, given_for, is_covered, measure_in, measured_content, no_files, nothing_given, with_digests, with_file, with_files, with_given}
use Rattle.embed.specs.Inputs.{given_by, held_in}

-- # One more in the map.

put : (is_it same : Bool) (value : Held) (old : Option Held) → is_it ≡ same
    → option_map given_by (cond is_it (Some value) old) ≡ cond same (Some (given_by value)) (option_map given_by old)
put true same value old e = rw (sym e) refl
put false same value old e = rw (sym e) refl

pub one_more : (old new : BTreeMap (String Global) Held) (name : String Global) (value : Held) (own : List ℕ)
    → Updates string_cmp old new name (Some value) → string_bytes name ≡ own
    → held_in new ≡ with_given (held_in old) own (given_by value)
one_more old new name value own updates named = fun_ext (λ q.
    ap (option_map given_by) (btree_map_updates_text (string_bytes name) old new (Some value) updates q)
    ∙ put _ _ value (get_by_text old q) (ap (λ n. bytes_eq n q) named))

-- a map without entries
pub none_held : (all : BTreeMap (String Global) Held) → all.entries ≡ [] → held_in all ≡ nothing_given
none_held all none = fun_ext (λ q. ap (λ (es : List (String Global × Held)). option_map given_by (lookup (is_at (λ k. slice_cmp nat_cmp q (string_bytes k))) es)) none)

-- # Files that are all given by their bytes.

one_whole : (b : Bool) (at : ℕ) (bytes : List ℕ) (given : Option Given) (file : Option (List ℕ)) → Agrees given file
    → Agrees (cond b (Some (Whole at bytes)) given) (cond b (Some bytes) file)
one_whole true at bytes given file agrees = refl
one_whole false at bytes given file agrees = agrees

all_whole : (fs : List File) (at : ℕ) (given : Givens) (files : Files) → AreGiven given files → AreGiven (with_files at given fs) (fold with_file files fs)
all_whole [] at given files are = are
all_whole (f ∷ fs) at given files are =
    all_whole fs (at + 1) (with_given given f.name.now (Whole at f.bytes.now)) (with_file files f)
    (λ name. one_whole (bytes_eq f.name.now name) at f.bytes.now (given name) (files name) (are name))

pub are_whole : (job : Job) → job.digests.now ≡ [] → AreTargets job (files_of job.targets.now)
are_whole job none =
    subst (λ ds. AreGiven (with_digests 0 (with_files 0 nothing_given job.targets.now) ds) (files_of job.targets.now)) (sym none)
    (all_whole job.targets.now 0 nothing_given no_files (λ name. refl))

-- # The file of a target.

first_agrees : (given : Option Given) (file : Option (List ℕ)) (more : Option Given) (rest : Option (List ℕ)) → Agrees given file → Agrees more rest
    → Agrees (option_map_or Some given more) (option_map_or Some file rest)
first_agrees None file more rest one all = subst (λ f. Agrees more (option_map_or Some f rest)) (sym one) all
first_agrees (Some (Whole at bytes)) file more rest one all = ap (λ f. option_map_or Some f rest) one
first_agrees (Some (Measured at m)) file more rest one all = record {
  bytes = one.bytes;
  there = ap (λ f. option_map_or Some f rest) one.there;
  of_length = one.of_length;
  of_sha256 = one.of_sha256;
  of_sha512 = one.of_sha512;
}

agrees : (given : Givens) (files : Files) → AreGiven given files → (names : List (List ℕ)) → Agrees (first_given given names) (first_there files names)
agrees given files are [] = refl
agrees given files are (name ∷ names) = first_agrees (given name) (files name) (first_given given names) (first_there files names) (are name) (agrees given files are names)

-- # The check of a target's file.

left : (a b : Bool) → (a && b) ≡ true → a ≡ true
left true b both = refl
left false b both = absurd (cc)

right : (a b : Bool) → (a && b) ≡ true → b ≡ true
right true b both = both
right false b both = absurd (cc)

-- a digest of the file differs as the given one does, if it is given where it is listed
same_digest : (listed given : Option (List ℕ)) (found : List ℕ) → IfSome given (λ d. d ≡ found) → is_covered listed given ≡ true
    → differs listed found ≡ differs_from listed given
same_digest None given found is covered = refl
same_digest (Some l) None found is covered = absurd (cc)
same_digest (Some l) (Some d) found is covered = ap (λ x. not (bytes_eq l x)) (sym is)

-- the check of a target by a length and by whether each digest differs
abbrev by_parts : Target → ℕ → Bool → Bool → Result ⊤ Fault
by_parts t size wrong256 wrong512 = do
  sized ← refuse_if (not (t.length == size)) LengthWrong
  hashed ← refuse_if (wrong256 || wrong512) HashWrong
  refuse_if (has_no_known_hash t.hashes) NoKnownHash

checks_one : (t : Target) (given : Option Given) (file : Option (List ℕ)) → Agrees given file → covers given t ≡ true
    → (or_refuse file Missing >>= content None (Some t.length) (Some t.hashes)) ≡ (or_refuse given Missing >>= given_content t)
checks_one t None file is covered = ap (λ o. or_refuse o Missing >>= content None (Some t.length) (Some t.hashes)) is
checks_one t (Some (Whole at bytes)) file is covered = ap (λ o. or_refuse o Missing >>= content None (Some t.length) (Some t.hashes)) is
checks_one t (Some (Measured at m)) file is covered =
    ap (λ o. or_refuse o Missing >>= content None (Some t.length) (Some t.hashes)) is.there
    ∙ ap (λ n. by_parts t n (differs t.hashes.sha256 (digest_by Sha256 is.bytes)) (differs t.hashes.sha512 (digest_by Sha512 is.bytes))) (sym is.of_length)
    ∙ ap (λ b. by_parts t m.length b (differs t.hashes.sha512 (digest_by Sha512 is.bytes)))
    (same_digest t.hashes.sha256 m.sha256 (digest_by Sha256 is.bytes) is.of_sha256 (left (is_covered t.hashes.sha256 m.sha256) (is_covered t.hashes.sha512 m.sha512) covered))
    ∙ ap (λ b. by_parts t m.length (differs_from t.hashes.sha256 m.sha256) b)
    (same_digest t.hashes.sha512 m.sha512 (digest_by Sha512 is.bytes) is.of_sha512 (right (is_covered t.hashes.sha256 m.sha256) (is_covered t.hashes.sha512 m.sha512) covered))

-- files of which this is given pass the same checks of a target of which enough is given
checks_alike : (given : Givens) (files : Files) → AreGiven given files → (consistent : Bool) (t : Target) → covers (given_for given consistent t) t ≡ true
    → target_checked files consistent t ≡ given_checked given consistent t
checks_alike given files are consistent t covered =
    checks_one t _ _ (agrees given files are (target_names consistent t.path t.hashes.sha256 t.hashes.sha512)) covered

module _ (given : Givens) (files : Files) (are : AreGiven given files) (b : Bool) where
  abbrev IsCovered : Option Search → Type 0
  IsCovered s = IfSome (target_of s) (λ t. covers (given_for given b t) t ≡ true)

  found_alike : (f : Found) → IfSome (listed_target f) (λ t. covers (given_for given b t) t ≡ true)
      → found_verdict (target_checked files) b f ≡ found_verdict (given_checked given) b f
  found_alike (found.Listed role t visited) covered = ap (listed_verdict role t) (checks_alike given files are b t covered)
  found_alike found.NotFound covered = refl
  found_alike found.LimitReached covered = refl
  found_alike (found.RoleRefused role fault) covered = refl

  verdict_alike : (s : Option Search) → IsCovered s → verdict_of (target_checked files) b s ≡ verdict_of (given_checked given) b s
  verdict_alike None covered = refl
  verdict_alike (Some s) covered = found_alike s.found covered

  verdicts_alike : (ss : List (Option Search)) → All IsCovered ss → map (verdict_of (target_checked files) b) ss ≡ map (verdict_of (given_checked given) b) ss
  verdicts_alike [] covered = refl
  verdicts_alike (s ∷ ss) covered =
      ap (λ v. v ∷ map (verdict_of (target_checked files) b) ss) (verdict_alike s (All-head IsCovered s ss covered))
      ∙ ap (λ vs. verdict_of (given_checked given) b s ∷ vs) (verdicts_alike ss (All-tail IsCovered s ss covered))

-- the outcome of the course with these verdicts
abbrev with_verdicts : Course → List Verdict → Outcome
with_verdicts c vs = record { trusted = c.trusted; end = c.end; verdicts = vs; accepted = gathered c.searches }

-- so a course of which enough is given is closed alike
pub closed_alike : (given : Givens) (files : Files) → AreGiven given files → (c : Course) → AreCovered given c
    → closed_by (target_checked files) c ≡ closed_by (given_checked given) c
closed_alike given files are c covered =
    ap (with_verdicts c) (verdicts_alike given files are c.trusted.root.reading.consistent c.searches covered)

module _ (all : BTreeMap (String Global) Held) (checks : Checks) (consistent : Bool) (t : Target) (first : Option Held) where
  abbrev IsFirst : Type 0
  IsFirst = option_map given_by first ≡ given_for (held_in all) consistent t

  abbrev AreBy : Type 0
  AreBy = checks ≡ given_checked (held_in all)

  by_first : AreBy → IsFirst → checks consistent t ≡ (or_refuse (option_map given_by first) Missing >>= given_content t)
  by_first by is = ap (λ (f : Checks). f consistent t) by ∙ ap (λ o. or_refuse o Missing >>= given_content t) (sym is)

  -- nothing is given
  pub missing : AreBy → IsFirst → first ≡ None → checks consistent t ≡ Err Missing
  missing by is none = by_first by is ∙ ap (λ o. or_refuse (option_map given_by o) Missing >>= given_content t) none

  -- the bytes are given
  pub whole : (at : ℕ) (bytes : Bor (List ℕ)) → AreBy → IsFirst → first ≡ Some (held.Bytes at bytes)
      → checks consistent t ≡ content None (Some t.length) (Some t.hashes) bytes.now
  whole at bytes by is some = by_first by is ∙ ap (λ o. or_refuse (option_map given_by o) Missing >>= given_content t) some

  -- the length and the digests are given
  pub by_digests : (at : ℕ) (digests : Bor Digests) → AreBy → IsFirst → first ≡ Some (held.Digests at digests)
      → checks consistent t ≡ measured_content t (measure_in digests.now)
  by_digests at digests by is some = by_first by is ∙ ap (λ o. or_refuse (option_map given_by o) Missing >>= given_content t) some
