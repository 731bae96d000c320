use Rattle.keys.proofs.Found.{listed_more}
use Rattle.keys.proofs.role_keys.RoleKeys.id_set.Goals as goal

pub loop-id-preserved : goal.loop-id-preserved
loop-id-preserved c =
    listed_more _ _ c.as_str.result _ _ _ c.in_ok-insert.ensures.updates c.loop-id-test.true c.id-item.is c.as_str.ensures.value c.loop-id.invariant
