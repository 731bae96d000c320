use Rattle.std.proofs.Common.{rules}
use Rattle.seals.proofs.signer.secret_of.Goals as goal

pub returns : goal.returns
returns = search rules
