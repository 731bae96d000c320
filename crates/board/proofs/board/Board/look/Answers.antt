use Rattle.std.proofs.Common.{sym, ap, ap₂, ◌∙◌, subst, refl, arith}
use Rattle.board.specs.Board.{IsDecided, Knows, Sat, SeatValue, having_found, having_seen}
use Rattle.board.proofs.Keeps.{looks}
use Rattle.board.proofs.Calls.{within_board, same_table, same_truths, right_of, keeps_seat, kept_looked, word_taken, word_verdict, verdict_word}
use Rattle.board.proofs.SeatLemmas.{all_looked}
use Rattle.board.proofs.board.Board.look.Goals as goal

pub load-found-requires : goal.load-found-requires
load-found-requires c =
    let within = within_board _ _ _ c.self.view_is c.requires.check in
    let size = c.self.invariant.0 in (
      same_table _ _ _ _ c.self.view_is c.seat.view_is c.requires.seat,
      omega arith,
      looks _ _ _ _ c.args.j within (same_truths _ _ _ _ c.self.view_is c.seat.view_is c.requires.seat),
    )

pub of_word-requires : goal.of_word-requires
of_word-requires c = (c.load-found.ensures.2 c.args.j refl).word

pub invariant_of-seat : goal.invariant_of-seat
invariant_of-seat c =
    let sees = c.load-found.ensures.2 c.args.j refl in
    kept_looked _ _ _ _ c.args.j _ c.of_word.result (λ v. sees.seen (subst IsDecided c.of_word.ensures (verdict_word _ v)))
    (λ n. sees.same (λ d. n (word_verdict _ (subst IsDecided (sym c.of_word.ensures) d)))) c.seat.invariant

pub returns-clause-taken : goal.returns-clause-taken
returns-clause-taken c right = word_taken _ (c.of_word.ensures ∙ (c.load-found.ensures.2 c.args.j refl).taken (right_of _ _ c.seat.view_is ∙ right))

pub returns-clause-known : goal.returns-clause-known
returns-clause-known c k =
    word_verdict _ (subst IsDecided (sym c.of_word.ensures) ((c.load-found.ensures.2 c.args.j refl).known (subst (λ (z : SeatValue). Knows z.view c.args.j) (sym c.seat.view_is) k)))

pub returns-clause-seen : goal.returns-clause-seen
returns-clause-seen c v =
    ap (λ (m : Sat). m.0) ((c.load-found.ensures.2 c.args.j refl).seen (subst IsDecided c.of_word.ensures (verdict_word _ v)))
    ∙ ap₂ (λ n (z : SeatValue). having_found n (having_seen z.view c.args.j)) (sym c.of_word.ensures) c.seat.view_is

pub returns-clause-same : goal.returns-clause-same
returns-clause-same c n =
    ap (λ (m : Sat). m.0) ((c.load-found.ensures.2 c.args.j refl).same (λ d. n (word_verdict _ (subst IsDecided (sym c.of_word.ensures) d))))
    ∙ ap₂ (λ n (z : SeatValue). having_found n z.view) (sym c.of_word.ensures) c.seat.view_is

pub returns-clause-kept : goal.returns-clause-kept
returns-clause-kept c =
    let sees = c.load-found.ensures.2 c.args.j refl in
    keeps_seat _ _ _ _ _ c.seat.view_is c.load-found.ensures.0
    (all_looked _ _ c.args.j _ c.of_word.result (λ v. ap (λ (m : Sat). m.0) (sees.seen (subst IsDecided c.of_word.ensures (verdict_word _ v))))
    (λ n. ap (λ (m : Sat). m.0) (sees.same (λ d. n (word_verdict _ (subst IsDecided (sym c.of_word.ensures) d))))))

pub returns-clause-valid : goal.returns-clause-valid
returns-clause-valid = grind arith
