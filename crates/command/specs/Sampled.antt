-- What is printed for the sample repository.
use Rattle.std.specs.Prelude.{◌≡◌, ℕ, List, Option}
use Rattle.report.specs.Lines.{nothing}
use Rattle.update.specs.Runs.{IsPrinted, Repository, Request, workflow}

-- An outcome of the workflow for the wanted paths. Its lines were printed, and its status is
-- returned.
pub record IsSampled (wanted : List (List ℕ)) (status : ℕ) (old new : Option (List ℕ))
    : Type 0 where
  pub request : Request
  pub repo : Repository
  pub of_paths : request.wanted ≡ wanted
  pub printed : IsPrinted (workflow request repo) nothing wanted status old new
