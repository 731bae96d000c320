use Rattle.std.proofs.Common.{rules}
use Rattle.examine.proofs.kinds.examine_next_timestamp.Goals as goal

pub returns-then-is_again : goal.returns-then-is_again
returns-then-is_again = search rules
