use Rattle.measured.proofs.Knowing.{one_more}
use Rattle.measured.proofs.known.named.Goals as goal

pub loop-name-preserved : goal.loop-name-preserved
loop-name-preserved c = record {
  can_next = tt;
  is_finite = tt;
  known = λ holds found. one_more holds found _ _ _ _ (c.loop-name.invariant.known holds found) c.in_ok-put.ensures.put;
}
