use Rattle.std.proofs.Common.{arith}
use Rattle.hands.proofs.Sharing.{linked_to, of_len}
use Rattle.hands.proofs.dealing.link.Goals as goal

pub returns-clause-shares : goal.returns-clause-shares
returns-clause-shares c = linked_to _ _ _ _ _ c.requires.hand (grind arith) (of_len _ _ _ _ _ _ (grind arith) c.loop-step.invariant.shares)
