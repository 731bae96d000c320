use Rattle.std.proofs.Common.{arith}
use Rattle.std.proofs.lemmas.Grind.{common_steps}
use Rattle.hands.proofs.Trying.{read_none, read_parts}
use Rattle.hands.proofs.hand.steal_first.Goals as goal

pub loop-place-preserved : goal.loop-place-preserved
loop-place-preserved c = record {
  tried = read_none _ _ _ _ _ (grind arith) c.loop-place.invariant.tried c.index_mut.ensures.value c.in_default.ensures.none;
  parts = read_parts _ _ _ _ _ c.index_mut.ensures.value c.in_default.ensures.none.part c.loop-place.invariant.parts;
  len = grind (arith, common_steps);
}
