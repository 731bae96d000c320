use Rattle.std.proofs.Common.{arith, ◌+◌, drop, length}
use Rattle.std.proofs.lemmas.Grind.{common_steps}
use Rattle.embed.specs.Inputs.{givens_by}
use Rattle.embed.proofs.Verdicts.{one_row}
use Rattle.embed.proofs.verifying.verdict_rows.Goals as goal

pub loop-at-preserved : goal.loop-at-preserved
loop-at-preserved c =
    let next = one_row (length c.loop-at.names.items) c.loop-at.at c.index-verdicts-at.result (drop (c.loop-at.at + 1) c.args.verdicts.now) (givens_by c.args.files.now) in
    grind (arith, common_steps, next)

pub returns-clause-rows : goal.returns-clause-rows
returns-clause-rows = grind (arith, common_steps)

pub returns-clause-names : goal.returns-clause-names
returns-clause-names = grind (arith, common_steps)
