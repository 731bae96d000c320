use Rattle.hands.proofs.Trying.{below_held}
use Rattle.hands.proofs.hand.Hand.next.Goals as goal

pub returns-clause-below : goal.returns-clause-below
returns-clause-below c = rw (← c.self.view_is) (below_held _ _ _ c.self.invariant c.steal_first.ensures.some)
