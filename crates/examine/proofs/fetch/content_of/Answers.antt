use Rattle.std.proofs.Common.{rules}
use Rattle.examine.proofs.fetch.content_of.Goals as goal

pub returns : goal.returns
returns = search rules
