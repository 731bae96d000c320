use Rattle.std.proofs.Common.{rules}
use Rattle.board.proofs.seat.done.Goals as goal

pub returns-clause-count : goal.returns-clause-count
returns-clause-count = search rules
