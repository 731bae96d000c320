use Rattle.std.proofs.Common.{rules}
use Rattle.embed.proofs.verifying.verify.Goals as goal

pub returns-clause-verified : goal.returns-clause-verified
returns-clause-verified = search rules
