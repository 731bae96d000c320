use Rattle.std.proofs.Common.{◌<◌, length, sym, ◌∙◌, subst, arith}
use Rattle.board.proofs.Keeps.{gives_back}
use Rattle.board.proofs.Calls.{same_table, same_truths}
use Rattle.board.proofs.board.Board.give_back.Goals as goal

pub store-requires : goal.store-requires
store-requires c =
    let j = c.in-Some.j in
    let of = same_truths _ _ _ _ c.self.view_is c.seat.view_is c.requires.seat in
    let within : j < length c.self.inside.table.shared.key.list = subst (λ xs. j < length xs) of (c.seat.invariant.within j c.in-Some.is) in
    let size = c.self.invariant.0 in (
      same_table _ _ _ _ c.self.view_is c.seat.view_is c.requires.seat,
      omega arith,
      gives_back _ _ _ _ j within (sym c.seat.invariant.holds ∙ c.in-Some.is),
    )

pub returns-clause-view : goal.returns-clause-view
returns-clause-view = grind arith
