use Rattle.std.proofs.Common.{arith}
use Rattle.std.proofs.lemmas.Grind.{common_steps}
use Rattle.measured.proofs.reading.note_all.Goals as goal

pub returns-in_err-note : goal.returns-in_err-note
returns-in_err-note = grind (arith, common_steps)

pub loop-search-preserved : goal.loop-search-preserved
loop-search-preserved = grind (arith, common_steps)
