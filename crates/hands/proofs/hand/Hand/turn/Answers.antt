use Rattle.std.proofs.Common.{rules}
use Rattle.hands.proofs.hand.Hand.turn.Goals as goal

pub returns-clause-turn : goal.returns-clause-turn
returns-clause-turn = search rules
