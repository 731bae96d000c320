use Rattle.std.proofs.Common.{arith}
use Rattle.std.proofs.lemmas.Grind.{common_steps}
use Rattle.command.proofs.folders.all_folders.Goals as goal

pub loop-repository-init : goal.loop-repository-init
loop-repository-init g c = grind (arith, common_steps)

pub loop-repository-preserved : goal.loop-repository-preserved
loop-repository-preserved g c = grind (arith, common_steps)

pub returns : goal.returns
returns g c = grind (arith, common_steps)
