use Rattle.needs.proofs.Lists.{one_more_name}
use Rattle.needs.proofs.names.names_of.Goals as goal

pub loop-name-preserved : goal.loop-name-preserved
loop-name-preserved c = record {
  can_next = tt;
  is_finite = tt;
  named = one_more_name _ _ _ _ c.loop-name.invariant.named c.in_ok-put.ensures;
}
