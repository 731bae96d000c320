use Rattle.std.proofs.Common.{rules}
use Rattle.copies.proofs.path.is_part.Goals as goal

pub returns-then-ne-2 : goal.returns-then-ne-2
returns-then-ne-2 = search rules
