use Rattle.std.proofs.Common.{arith}
use Rattle.hands.proofs.Turning.{turn_within}
use Rattle.hands.proofs.turn.turn_of.Goals as goal

pub overflow_add-result : goal.overflow_add-result
overflow_add-result c = let least = turn_within _ _ _ _ _ c.requires.some c.place_of-k.ensures in grind arith
