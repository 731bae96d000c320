use Rattle.std.proofs.Common.{rules}
use Rattle.embed.proofs.fetching.need_row.Goals as goal

pub returns : goal.returns
returns = search rules
