use Rattle.hands.proofs.Turning.{in_shorter}
use Rattle.hands.proofs.turn.place_of.Goals as goal

pub returns-else-n-border : goal.returns-else-n-border
returns-else-n-border c = in_shorter _ _ _ c.requires.some c.requires.below c.if-n-border.false
