use Rattle.leaves.proofs.log.note_stored.Goals as goal

pub returns-clause-noted : goal.returns-clause-noted
returns-clause-noted g c = (
  c.in_ok-to_vec.field-0,
  c.in_ok-to_vec.ensures.items_if_clones_equal (λ x y e. e),
  c.in_ok-push.ensures.items,
)
