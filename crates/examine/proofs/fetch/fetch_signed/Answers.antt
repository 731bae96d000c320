use Rattle.std.proofs.Common.{rules}
use Rattle.examine.proofs.fetch.fetch_signed.Goals as goal

pub returns : goal.returns
returns = search rules
