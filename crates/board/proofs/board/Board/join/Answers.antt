use Rattle.std.proofs.Common.{arith, ap, ◌∙◌}
use Rattle.board.specs.Board.{Sat}
use Rattle.board.proofs.Keeps.{joins, counts}
use Rattle.board.proofs.Calls.{same_table, same_truths, right_of}
use Rattle.board.proofs.board.Board.join.Goals as goal
use Rattle.std.proofs.lemmas.Grind.{common_steps}

pub join_seat-requires : goal.join_seat-requires
join_seat-requires c =
    let size = c.self.invariant.0 in (
      same_table _ _ _ _ c.self.view_is c.first.view_is c.requires.first.seat,
      same_table _ _ _ _ c.self.view_is c.second.view_is c.requires.second.seat,
      c.second.invariant.no_slot,
      omega arith,
      joins c.self.inside.table.shared.key.list 0 c.first.inside.inner.id c.first.inside.inner.me c.second.inside.inner.id c.second.inside.inner.me.0 (right_of _ _ c.first.view_is ∙ c.requires.first.right) (right_of _ _ c.second.view_is ∙ c.requires.second.right),
    )

pub load-requires : goal.load-requires
load-requires c =
    let size = c.self.invariant.0 in
    let of = same_truths _ _ _ _ c.self.view_is c.first.view_is c.requires.first.seat in (
      c.join_seat.ensures.0 ∙ same_table _ _ _ _ c.self.view_is c.first.view_is c.requires.first.seat,
      omega arith,
      counts _ _ _ _ (ap (λ (m : Sat). m.0.truths) c.join_seat.ensures.2 ∙ of),
    )

pub invariant_of-result : goal.invariant_of-result
invariant_of-result = grind (arith, common_steps)
