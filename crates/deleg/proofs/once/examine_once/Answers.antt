use Rattle.std.proofs.Common.{◌∙◌, arith}
use Rattle.std.proofs.lemmas.Grind.{common_steps}
use Rattle.deleg.specs.Cache.{examination_in}
use Rattle.deleg.proofs.once.examine_once.Goals as goal

pub returns-in_err-outcome-clause-answer : goal.returns-in_err-outcome-clause-answer
returns-in_err-outcome-clause-answer g c =
    let outcome = c.in-Some.ensures (examination_in c.args.query.now) c.requires.cache ∙ c.in_err-outcome.was in
    grind (arith, common_steps)

pub returns-in-Some-clause-answer : goal.returns-in-Some-clause-answer
returns-in-Some-clause-answer g c = c.in-Some.ensures (examination_in c.args.query.now) c.requires.cache ∙ c.in_ok-outcome.was
