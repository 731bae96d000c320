use Rattle.std.proofs.Common.{map, string_bytes}
use Rattle.update.proofs.Placeable.{AreFirstCandidates}
use Rattle.update.proofs.placing.candidates.Given as goal

abbrev pub invariant-loop-i : goal.invariant-loop-i
invariant-loop-i l = AreFirstCandidates (map string_bytes l.wanted) l.verdicts l.i l.flags.items
