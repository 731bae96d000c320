use Rattle.std.proofs.Common.{arith}
use Rattle.std.proofs.lemmas.Grind.{common_steps}
use Rattle.cjson.proofs.members.read_each_member.Goals as goal

pub loop-name-preserved : goal.loop-name-preserved
loop-name-preserved = grind (arith, common_steps)
