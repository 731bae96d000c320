use Rattle.std.proofs.Common.{rules}
use Rattle.embed.proofs.held.add_targets.Goals as goal

pub returns-in_err-add_files-clause-errors : goal.returns-in_err-add_files-clause-errors
returns-in_err-add_files-clause-errors = search rules
