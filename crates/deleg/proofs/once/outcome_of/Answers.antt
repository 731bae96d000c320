use Rattle.std.proofs.Common.{rules}
use Rattle.deleg.proofs.once.outcome_of.Goals as goal

pub returns-in-Err-Refused : goal.returns-in-Err-Refused
returns-in-Err-Refused = search rules
