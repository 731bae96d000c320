-- The course, the outcome and the faults of a job.
use Rattle.std.proofs.Common.{◌≡◌, ◌⊎◌, ℕ, List, Option, Result, Ok, Err, IfOk, IfErr, IsErrAnd, inl, inr, sym, ap, ◌∙◌, subst}
use Rattle.rolechain.specs.Text.{state_of}
use Rattle.cycle.specs.Workflow.{Course, Outcome, State, closed_by, course}
use Rattle.needs.specs.Needs.{Names, needs}
use Rattle.needs.specs.declared.need.Need.{Need}
use Rattle.embed.proofs.Indices.{are_rows}
use Rattle.embed.proofs.Targets.{are_whole, closed_alike}
use Rattle.embed.specs.declared.fault.JobFault.{JobFault}
use Rattle.embed.specs.declared.fault.JobFault.TheVariants as fault
use Rattle.embed.specs.declared.fetching.Missing.{Missing}
use Rattle.embed.specs.declared.job.Job.{Job}
use Rattle.embed.specs.declared.listing.Listing.{Listing}
use Rattle.embed.specs.Jobs.{Files, Given, Givens, Moment, AreDigestsNamed, AreNamed, HasCause, IsNoText, course_for, files_of, given_checked, givens_for, givens_of, moment_at, paths_of, request_for}
use Rattle.embed.specs.Outcomes.{EncodesCourse, EncodesNeeds, IsListing, IsNext, IsOutcome, has_name}

-- the course on what the parts of the job represent
pub course_is : (job : Job) (trusted : State) (metadata : Files) (now : Moment) (wanted : List (List ℕ)) (limit : ℕ)
    → metadata ≡ files_of job.metadata.now → now ≡ moment_at job.moment → wanted ≡ paths_of job.wanted.now → limit ≡ job.limit
    → course (record { trusted = trusted; moment = now; wanted = wanted; limit = limit }) metadata ≡ course (request_for job trusted) (files_of job.metadata.now)
course_is job trusted metadata now wanted limit of_metadata of_now of_wanted of_limit =
    ap (λ f. course (record { trusted = trusted; moment = now; wanted = wanted; limit = limit }) f) of_metadata
    ∙ ap (λ m. course (record { trusted = trusted; moment = m; wanted = wanted; limit = limit }) (files_of job.metadata.now)) of_now
    ∙ ap (λ w. course (record { trusted = trusted; moment = moment_at job.moment; wanted = w; limit = limit }) (files_of job.metadata.now)) of_wanted
    ∙ ap (λ n. course (record { trusted = trusted; moment = moment_at job.moment; wanted = paths_of job.wanted.now; limit = n }) (files_of job.metadata.now)) of_limit

-- a run returns that course
pub followed : {E : Type 0} (job : Job) (trusted : State) (metadata : Files) (now : Moment) (wanted : List (List ℕ)) (limit : ℕ) (r : Result Course E)
    → metadata ≡ files_of job.metadata.now → now ≡ moment_at job.moment → wanted ≡ paths_of job.wanted.now → limit ≡ job.limit
    → IfOk r (λ c. c ≡ course (record { trusted = trusted; moment = now; wanted = wanted; limit = limit }) metadata)
    → IfOk r (λ c. c ≡ course_for job trusted)
followed job trusted metadata now wanted limit (Err e) of_metadata of_now of_wanted of_limit said = tt
followed job trusted metadata now wanted limit (Ok c) of_metadata of_now of_wanted of_limit said = said ∙ course_is job trusted metadata now wanted limit of_metadata of_now of_wanted of_limit

-- the outcome of the job, if its course was closed by what is given of its targets
pub outcome_is : (job : Job) (trusted : State) (given : Givens) (c : Course) (o : Outcome) (files : List (Option Given))
    → state_of job.state.now ≡ Ok trusted → c ≡ course_for job trusted → given ≡ givens_of job
    → o ≡ closed_by (given_checked given) c → files ≡ givens_for given c → IsOutcome job o files
outcome_is job trusted given c o files read of_course of_given closed of_files =
    let by_course = closed ∙ ap (closed_by (given_checked given)) of_course ∙ ap (λ g. closed_by (given_checked g) (course_for job trusted)) of_given in
    record {
      trusted = trusted;
      read = read;
      given = by_course;
      files_are = of_files ∙ ap (givens_for given) of_course ∙ ap (λ g. givens_for g (course_for job trusted)) of_given;
      named = are_rows job;
      workflow = λ targets are covered. by_course ∙ sym (closed_alike (givens_of job) targets are (course_for job trusted) covered);
      whole = are_whole job;
    }

-- a target file without a name is a cause, and so is being out of memory
pub no_targets : {T : Type 0} (job : Job) (f : JobFault) (r : Result T JobFault)
    → IsNoText (AreNamed job.targets.now) f ⊎ IsNoText (AreDigestsNamed job.digests.now) f → IsErrAnd r (λ g. g ≡ f) → IfErr r (HasCause job)
no_targets job f (Ok x) said same = tt
no_targets job f (Err g) (inl (inl memory)) same = subst (HasCause job) (sym (same ∙ memory)) tt
no_targets job f (Err g) (inl (inr name)) same = subst (HasCause job) (sym (same ∙ name.0)) (λ m t d w. name.1 t)
no_targets job f (Err g) (inr (inl memory)) same = subst (HasCause job) (sym (same ∙ memory)) tt
no_targets job f (Err g) (inr (inr name)) same = subst (HasCause job) (sym (same ∙ name.0)) (λ m t d w. name.1 d)

pub no_memory : {T : Type 0} (job : Job) (r : Result T JobFault) → IfErr r (λ f. f ≡ fault.Memory) → IfErr r (HasCause job)
no_memory job (Ok x) said = tt
no_memory job (Err f) said = subst (HasCause job) (sym said) tt

-- the rows of the course are those of the job
pub listing_is : {E : Type 0} (job : Job) (trusted : State) (c : Course) (r : Result Listing E)
    → state_of job.state.now ≡ Ok trusted → c ≡ course_for job trusted
    → IfOk r (λ l. EncodesCourse c l.status l.summary l.state.items l.rows.items l.names.items)
    → IfOk r (λ l. IsListing job l.status l.summary l.state.items l.rows.items l.names.items)
listing_is job trusted c (Err e) read is rows = tt
listing_is job trusted c (Ok l) read is rows = record {
  trusted = trusted;
  read = read;
  rows_are = subst (λ c. EncodesCourse c l.status l.summary l.state.items l.rows.items l.names.items) is rows;
}

-- the rows of the files that are needed are those of the job
pub next_is : {E : Type 0} (job : Job) (trusted : State) (c : Course) (all : List Need) (there held : Names) (r : Result Missing E)
    → state_of job.state.now ≡ Ok trusted → c ≡ course_for job trusted → all ≡ needs trusted.root.reading c there held
    → there ≡ has_name (files_of job.metadata.now) → held ≡ has_name (givens_of job)
    → IfOk r (λ m. EncodesNeeds c all m.status m.summary m.rows.items m.names.items)
    → IfOk r (λ m. IsNext job m.status m.summary m.rows.items m.names.items)
next_is job trusted c all there held (Err e) read is found in_files in_held rows = tt
next_is job trusted c all there held (Ok m) read is found in_files in_held rows = record {
  trusted = trusted;
  read = read;
  rows_are = subst (λ xs. EncodesNeeds (course_for job trusted) xs m.status m.summary m.rows.items m.names.items)
      (found ∙ ap (λ c. needs trusted.root.reading c there held) is ∙ ap (λ f. needs trusted.root.reading (course_for job trusted) f held) in_files
      ∙ ap (λ h. needs trusted.root.reading (course_for job trusted) (has_name (files_of job.metadata.now)) h) in_held)
      (subst (λ c. EncodesNeeds c all m.status m.summary m.rows.items m.names.items) is rows);
}
