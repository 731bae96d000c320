-- The request and the repository that the input of a cycle stands for.
use Rattle.cycle.specs.Workflow.{Repository, Request, repository, request}
use Rattle.cycle.specs.declared.round.Cycle.{Cycle}

abbrev pub request_of : Cycle → Request
request_of c = request c.trusted.now c.round.now c.round.wanted.now c.limits.roles

abbrev pub repository_of : Cycle → Repository
repository_of c = repository c.round.repo.now
