use Rattle.std.proofs.Common.{arith}
use Rattle.std.proofs.lemmas.Grind.{common_steps}
use Rattle.std.proofs.lemmas.Slice.Eq.{text_from_reads}
use Rattle.moment.proofs.stamp_of.Goals as goal

pub returns-clause-some : goal.returns-clause-some
returns-clause-some c = (
  (grind (arith, common_steps), grind (arith, common_steps), grind (arith, common_steps), grind (arith, common_steps), grind (arith, common_steps), grind (arith, common_steps)),
  text_from_reads _ _ (grind (arith, common_steps)) (grind (arith, common_steps)),
)
