use Rattle.measured.proofs.SeenFiles.{closed_if}
use Rattle.measured.proofs.closing.close.Goals as goal

pub returns-clause-outcome : goal.returns-clause-outcome
returns-clause-outcome c = closed_if c.args.course c.args.known.now c.close.result c.close.ensures.outcome
