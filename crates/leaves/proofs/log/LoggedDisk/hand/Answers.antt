use Rattle.std.proofs.Common.{◌∙◌}
use Rattle.leaves.proofs.log.LoggedDisk.hand.Goals as goal

pub hand-requires : goal.hand-requires
hand-requires g c = record {
  noted = (
    c.args.self.now.log.items,
    (
      c.in_ok-to_vec.field-0,
      c.in_ok-to_vec.ensures.items_if_clones_equal (λ x y e. e),
      c.deref.ensures.value ∙ c.in_ok-push.ensures.items,
    ),
  );
}
