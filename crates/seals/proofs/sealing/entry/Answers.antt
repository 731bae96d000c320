use Rattle.std.proofs.Common.{rules}
use Rattle.seals.proofs.sealing.entry.Goals as goal

pub returns-in_err-entry_of-clause-spent : goal.returns-in_err-entry_of-clause-spent
returns-in_err-entry_of-clause-spent = search rules

pub returns-clause-leaf : goal.returns-clause-leaf
returns-clause-leaf = search rules
