use Rattle.std.proofs.Common.{refl}
use Rattle.embed.specs.Inputs.{held_in}
use Rattle.embed.specs.Jobs.{given_checked}
use Rattle.embed.proofs.verifying.close.Goals as goal

pub returns-clause-outcome : goal.returns-clause-outcome
returns-clause-outcome c =
    c.in_ok-outcome.ensures.outcome (given_checked (held_in c.args.held.now)) refl
