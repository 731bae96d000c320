use Rattle.std.proofs.Common.{rules}
use Rattle.update.proofs.host.Folders.open.Goals as goal

pub returns-clause-metadata : goal.returns-clause-metadata
returns-clause-metadata = search rules
