use Rattle.std.proofs.Common.{arith}
use Rattle.std.proofs.lemmas.Grind.{common_steps}
use Rattle.cjson.proofs.list.read_each.Goals as goal

pub loop-item-preserved : goal.loop-item-preserved
loop-item-preserved = grind (arith, common_steps)
