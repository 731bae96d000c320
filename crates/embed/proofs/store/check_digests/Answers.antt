use Rattle.std.proofs.Common.{rules}
use Rattle.embed.proofs.store.check_digests.Goals as goal

pub returns : goal.returns
returns = search rules
