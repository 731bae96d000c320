use Rattle.std.proofs.Common.{rules}
use Rattle.plan.proofs.draft.Draft.is_full.Goals as goal

pub returns : goal.returns
returns = search rules
