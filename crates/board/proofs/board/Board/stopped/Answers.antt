use Rattle.std.proofs.Common.{rules}
use Rattle.board.proofs.board.Board.stopped.Goals as goal

pub returns-clause-known : goal.returns-clause-known
returns-clause-known = search rules

pub returns-clause-same : goal.returns-clause-same
returns-clause-same = search rules

pub returns-clause-halted : goal.returns-clause-halted
returns-clause-halted = search rules
