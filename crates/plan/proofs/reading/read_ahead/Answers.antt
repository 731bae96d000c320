use Rattle.std.proofs.Common.{rules}
use Rattle.plan.proofs.reading.read_ahead.Goals as goal

pub invariant_of-reader : goal.invariant_of-reader
invariant_of-reader = search rules
