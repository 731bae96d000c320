use Rattle.std.proofs.Common.{◌∙◌, ap}
use Rattle.leaves.specs.Leaves.{leaf_of}
use Rattle.leaves.proofs.Runs.{hands_one}
use Rattle.leaves.proofs.signing.sign_next.Goals as goal

pub returns-in-Ok-hand-clause-any_moment : goal.returns-in-Ok-hand-clause-any_moment
returns-in-Ok-hand-clause-any_moment g c =
    hands_one _ _ _ _ _ c.deref.result.now c.hand.ensures.time (ap leaf_of c.deref.ensures.value ∙ c.in-Ok.ensures.leaf)

pub returns-in-Ok-clause-any_moment : goal.returns-in-Ok-clause-any_moment
returns-in-Ok-clause-any_moment g c =
    hands_one _ _ _ _ _ c.deref.result.now c.hand.ensures.time (ap leaf_of c.deref.ensures.value ∙ c.in-Ok.ensures.leaf)
