-- What is printed of an outcome of the workflow.
use Rattle.std.proofs.Common.{◌≡◌, Result, Ok, Err, IfOk, List, ℕ, Option, subst}
use Rattle.cycle.specs.Workflow.{Repository, Request, workflow}
use Rattle.report.specs.Lines.{nothing}
use Rattle.report.specs.declared.told.Told.{Told}
use Rattle.update.specs.Runs.{IsPrinted}
use Rattle.command.specs.Sampled.{IsSampled}

-- the lines and the status of an outcome of the workflow
pub sampled : {E : Type 0} (r : Request) (repo : Repository) (t : Told) (wanted : List (List ℕ)) (old new : Option (List ℕ)) (status : Result ℕ E)
    → r.wanted ≡ wanted
    → t.outcome ≡ workflow r repo
    → t.why ≡ nothing
    → IfOk status (λ status. IsPrinted t.outcome t.why wanted status old new)
    → IfOk status (λ status. IsSampled wanted status old new)
sampled r repo t wanted old new (Ok status) paths is none lines = record {
  request = r;
  repo = repo;
  of_paths = paths;
  printed = subst (λ w. IsPrinted (workflow r repo) w wanted status old new) none (subst (λ o. IsPrinted o t.why wanted status old new) is lines);
}
sampled r repo t wanted old new (Err e) paths is none lines = tt

-- the wanted paths by another name
pub renamed : {E : Type 0} (wanted other : List (List ℕ)) (old new : Option (List ℕ)) (r : Result ℕ E) → wanted ≡ other
    → IfOk r (λ status. IsSampled wanted status old new)
    → IfOk r (λ status. IsSampled other status old new)
renamed wanted other old new r same h = subst (λ w. IfOk r (λ status. IsSampled w status old new)) same h
