use Rattle.std.proofs.Common.{◌<◌, length, sym, ap, ◌∙◌, subst, refl, arith}
use Rattle.board.specs.Board.{Knows, Sat, holding, SeatValue}
use Rattle.board.proofs.Keeps.{claims}
use Rattle.board.proofs.Calls.{within_board, same_table, same_truths, right_of, same_seat, keeps_seat, kept_same, kept_holding}
use Rattle.board.proofs.SeatLemmas.{keeps_same, all_holding}
use Rattle.board.proofs.board.Board.claim.Goals as goal

pub compare_exchange-found-requires : goal.compare_exchange-found-requires
compare_exchange-found-requires c =
    let within = within_board _ _ _ c.self.view_is c.requires.check in
    let size = c.self.invariant.0 in (
      same_table _ _ _ _ c.self.view_is c.seat.view_is c.requires.seat,
      omega arith,
      claims _ _ _ _ c.args.j within (right_of _ _ c.seat.view_is ∙ c.requires.free),
    )

pub invariant_of-seat : goal.invariant_of-seat
invariant_of-seat c = kept_same _ _ _ _ c.seat.invariant ((c.compare_exchange-found.ensures.2 c.args.j refl).1 c.if-found-ne-OPEN.true)

pub returns-then-found-ne-OPEN-clause-lost : goal.returns-then-found-ne-OPEN-clause-lost
returns-then-found-ne-OPEN-clause-lost c _ =
    same_seat _ _ _ _ _ c.seat.view_is c.compare_exchange-found.ensures.0 (ap (λ (m : Sat). m.0) ((c.compare_exchange-found.ensures.2 c.args.j refl).1 c.if-found-ne-OPEN.true))

pub returns-then-found-ne-OPEN-clause-kept : goal.returns-then-found-ne-OPEN-clause-kept
returns-then-found-ne-OPEN-clause-kept c = keeps_same _ _ (returns-then-found-ne-OPEN-clause-lost c refl)

pub invariant_of-seat-2 : goal.invariant_of-seat-2
invariant_of-seat-2 c =
    let of = same_truths _ _ _ _ c.self.view_is c.seat.view_is c.requires.seat in
    let within = subst (λ xs. c.args.j < length xs) (sym of) (within_board _ _ _ c.self.view_is c.requires.check) in
    kept_holding _ _ _ _ c.seat.invariant c.args.j within ((c.compare_exchange-found.ensures.2 c.args.j refl).0 c.if-found-ne-OPEN.false).0

pub returns-clause-won : goal.returns-clause-won
returns-clause-won c _ =
    ap (λ (m : Sat). m.0) ((c.compare_exchange-found.ensures.2 c.args.j refl).0 c.if-found-ne-OPEN.false).0
    ∙ ap (λ (z : SeatValue). holding z.view c.args.j) c.seat.view_is

pub returns-clause-unknown : goal.returns-clause-unknown
returns-clause-unknown c _ k =
    ((c.compare_exchange-found.ensures.2 c.args.j refl).0 c.if-found-ne-OPEN.false).1 (subst (λ (z : SeatValue). Knows z.view c.args.j) (sym c.seat.view_is) k)

pub returns-clause-kept : goal.returns-clause-kept
returns-clause-kept c =
    keeps_seat _ _ _ _ _ c.seat.view_is c.compare_exchange-found.ensures.0
    (all_holding _ _ c.args.j (ap (λ (m : Sat). m.0) ((c.compare_exchange-found.ensures.2 c.args.j refl).0 c.if-found-ne-OPEN.false).0))
