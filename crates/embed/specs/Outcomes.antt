-- What a caller gets: an outcome or a course as a status, a summary, the text of the new state,
-- rows and names.
use Rattle.std.specs.Prelude.{◌≡◌, ℕ, Bool, true, false, List, [], ◌++◌, if◌then◌else◌, length, replicate, Ok, Option, is_some}
use Rattle.std.specs.List.{list_all}
use Rattle.rolechain.specs.Kept.{kept_of, kept_text}
use Rattle.rolechain.specs.Text.{root_state, state_of}
use Rattle.deleg.specs.declared.accepted.Search.{Search}
use Rattle.cycle.specs.Workflow.{End, Ready, Stopped, State, Course, Outcome, closed_by, target_of, workflow}
use Rattle.cycle.specs.declared.verdict.Verdict.{Verdict}
use Rattle.cycle.specs.declared.verdict.Verdict.TheVariants.{Good}
use Rattle.embed.specs.declared.job.Job.{Job}
use Rattle.needs.specs.Needs.{Names, needs}
use Rattle.needs.specs.declared.need.Need.{Need}
use Rattle.embed.specs.declared.rows.ListedRow.{ListedRow}
use Rattle.embed.specs.declared.rows.NeedRow.{NeedRow}
use Rattle.embed.specs.declared.rows.RoleRow.{RoleRow}
use Rattle.embed.specs.declared.rows.Summary.{Summary}
use Rattle.embed.specs.declared.rows.VerdictRow.{VerdictRow}
use Rattle.embed.specs.Jobs.{AreCovered, AreTargets, Files, Given, IsRow, course_for, files_of, given_checked, givens_for, givens_of, repository_for, request_for}
use Rattle.embed.specs.Rows.{end_number, end_fault, verdict_rows, verdict_names, role_rows, role_names, listed_rows, listed_names, need_rows, need_names}

-- # The status.

-- 2 if the cycle stopped, else 0 if all are accepted, else 1
abbrev pub status_of : End → Bool → ℕ
status_of Ready true = 0
status_of Ready false = 1
status_of (Stopped step fault) all = 2

abbrev pub is_good : Verdict → Bool
is_good (Good role length) = true
is_good _ = false

-- # How a cycle ended.

pub record EndsAs (s : State) (e : End) (summary : Summary) : Type 0 where
  pub of_end : summary.end ≡ end_number e
  pub of_fault : summary.fault ≡ end_fault e
  pub of_root : summary.root_version ≡ s.root.reading.header.version
  pub of_reserved : summary.reserved ≡ replicate 4 0

-- # A verification.

-- The outcome: the text of its state, a row for each wanted path, by what is given of the target's
-- file, and for each accepted role, and the names of the roles.
pub record Encodes (o : Outcome) (files : List (Option Given)) (status : ℕ) (summary : Summary)
    (text : List ℕ) (verdicts : List VerdictRow) (roles : List RoleRow)
    (names : List ℕ) : Type 0 where
  pub of_status : status ≡ status_of o.end (list_all is_good o.verdicts)
  pub ends : EndsAs o.trusted o.end summary
  pub of_text : text ≡ kept_text (kept_of o.trusted)
  pub of_verdicts : verdicts ≡ verdict_rows 0 o.verdicts files
  pub of_roles : roles ≡ role_rows (length (verdict_names o.verdicts)) o.accepted
  pub of_names : names ≡ verdict_names o.verdicts ++ role_names o.accepted

-- how much there is of each
pub record AreCounted (summary : Summary) (text : List ℕ) (verdicts : List VerdictRow)
    (roles : List RoleRow) (names : List ℕ) : Type 0 where
  pub of_text : summary.state_len ≡ length text
  pub of_verdicts : summary.verdict_count ≡ length verdicts
  pub of_roles : summary.role_count ≡ length roles
  pub of_names : summary.name_len ≡ length names

-- The outcome of the workflow for the job, from the state of its text, and what is given of the
-- file of each target: the course is closed by this, which is that of the row at its index. So it is
-- closed by all target files that may be the job's, if each digest is given that is listed. If all
-- are given by their bytes, those of the list are such files.
pub record IsOutcome (job : Job) (o : Outcome) (files : List (Option Given)) : Type 0 where
  pub trusted : State
  pub read : state_of job.state.now ≡ Ok trusted
  pub given : o ≡ closed_by (given_checked (givens_of job)) (course_for job trusted)
  pub files_are : files ≡ givens_for (givens_of job) (course_for job trusted)
  pub named : (name : List ℕ) → IsRow job name (givens_of job name)
  pub workflow : (targets : Files) → AreTargets job targets
      → AreCovered (givens_of job) (course_for job trusted)
      → o ≡ workflow (request_for job trusted) (repository_for job targets)
  pub whole : job.digests.now ≡ [] → AreTargets job (files_of job.targets.now)

-- The rows of an outcome for the job.
pub record IsVerified (job : Job) (status : ℕ) (summary : Summary) (text : List ℕ)
    (verdicts : List VerdictRow) (roles : List RoleRow) (names : List ℕ) : Type 0 where
  pub outcome : Outcome
  pub files : List (Option Given)
  pub is : IsOutcome job outcome files
  pub rows : Encodes outcome files status summary text verdicts roles names

-- # A listing.

abbrev pub is_listed : Option Search → Bool
is_listed s = is_some (target_of s)

-- The course: the text of its state, a row for each wanted path, and the names of the roles and of
-- the files to fetch.
pub record EncodesCourse (c : Course) (status : ℕ) (summary : Summary) (text : List ℕ)
    (rows : List ListedRow) (names : List ℕ) : Type 0 where
  pub of_status : status ≡ status_of c.end (list_all is_listed c.searches)
  pub ends : EndsAs c.trusted c.end summary
  pub of_text : text ≡ kept_text (kept_of c.trusted)
  pub of_rows : rows ≡ listed_rows c.trusted.root.reading.consistent 0 c.searches
  pub of_names : names ≡ listed_names c.trusted.root.reading.consistent c.searches

pub record AreListed (summary : Summary) (text : List ℕ) (rows : List ListedRow)
    (names : List ℕ) : Type 0 where
  pub of_text : summary.state_len ≡ length text
  pub of_rows : summary.verdict_count ≡ length rows
  pub of_names : summary.name_len ≡ length names

-- The course of the job, from the state of its text.
pub record IsListing (job : Job) (status : ℕ) (summary : Summary) (text : List ℕ)
    (rows : List ListedRow) (names : List ℕ) : Type 0 where
  pub trusted : State
  pub read : state_of job.state.now ≡ Ok trusted
  pub rows_are : EncodesCourse (course_for job trusted) status summary text rows names

-- # What to fetch next.

abbrev pub has_name : {A : Type 0} → (List ℕ → Option A) → Names
has_name files name = is_some (files name)

-- the files that the job's workflow looked up and found absent
abbrev pub needs_for : Job → State → List Need
needs_for job trusted = needs trusted.root.reading (course_for job trusted)
    (has_name (files_of job.metadata.now)) (has_name (givens_of job))

-- 1 if there is such a file that isn't optional, else 2 if the cycle stopped, else 0
abbrev pub needs_status : End → List Need → ℕ
needs_status e all = if list_all (λ n. n.optional) all then status_of e true else 1

-- The files, and how the course ended: a row for each file, and their names.
pub record EncodesNeeds (c : Course) (all : List Need) (status : ℕ) (summary : Summary)
    (rows : List NeedRow) (names : List ℕ) : Type 0 where
  pub of_status : status ≡ needs_status c.end all
  pub ends : EndsAs c.trusted c.end summary
  pub of_rows : rows ≡ need_rows 0 all
  pub of_names : names ≡ need_names all

pub record AreNeeds (summary : Summary) (rows : List NeedRow) (names : List ℕ) : Type 0 where
  pub of_rows : summary.verdict_count ≡ length rows
  pub of_names : summary.name_len ≡ length names

-- The files of the job, from the state of its text.
pub record IsNext (job : Job) (status : ℕ) (summary : Summary) (rows : List NeedRow)
    (names : List ℕ) : Type 0 where
  pub trusted : State
  pub read : state_of job.state.now ≡ Ok trusted
  pub rows_are : EncodesNeeds (course_for job trusted) (needs_for job trusted) status summary
      rows names

-- # A first state.

-- the text of the state of a first root
pub record IsFirst (root text : List ℕ) : Type 0 where
  pub trusted : State
  pub read : root_state root ≡ Ok trusted
  pub written : text ≡ kept_text (kept_of trusted)
