use Rattle.std.proofs.Common.{rules}
use Rattle.plan.proofs.draft.Draft.has.Goals as goal

pub returns : goal.returns
returns = search rules
