use Rattle.std.proofs.Common.{◌≡◌, ◌<◌, length, sym, ap, ◌∙◌, subst, refl, arith, true≢false}
use Rattle.board.specs.Board.{truth, BoardValue, Sat}
use Rattle.board.proofs.SeatLemmas.{all_done}
use Rattle.board.proofs.Keeps.{publishes}
use Rattle.board.proofs.Calls.{same_table, same_truths, right_of, claimed_truth, verdict_is, keeps_seat, kept_done}
use Rattle.board.proofs.board.Board.publish.Goals as goal
use Rattle.board.proofs.board.Board.publish.Goals.{then-verdict, else-verdict}

pub store-requires : goal.store-requires
store-requires c =
    let j = c.in-Some.j in
    let of = same_truths _ _ _ _ c.self.view_is c.seat.view_is c.requires.seat in
    let right = sym c.seat.invariant.holds ∙ c.in-Some.is in
    let within : j < length c.self.inside.table.shared.key.list = subst (λ xs. j < length xs) of (c.seat.invariant.within j c.in-Some.is) in
    let is_true = claimed_truth _ _ _ _ c.requires.truth (sym (right_of _ _ c.seat.view_is) ∙ right) in
    let true_here = subst (λ (b : BoardValue). c.args.verdict ≡ truth b.truths j) (sym c.self.view_is) is_true in
    let w = verdict_is c.args.verdict (truth c.self.inside.table.shared.key.list j) c.if-verdict.word true_here
    (λ t. elim c.if-verdict.branch [ then-verdict w ↦ w.word-is | else-verdict w ↦ absurd (true≢false (sym t ∙ w.if-verdict.false)) ])
    (λ f. elim c.if-verdict.branch [ then-verdict w ↦ absurd (true≢false (sym w.if-verdict.true ∙ f)) | else-verdict w ↦ w.word-is ]) in
    let size = c.self.invariant.0 in (
      same_table _ _ _ _ c.self.view_is c.seat.view_is c.requires.seat,
      omega arith,
      publishes _ _ _ _ j within right of c.if-verdict.word w.0 w.1 w.2 w.3,
    )

pub invariant_of-seat : goal.invariant_of-seat
invariant_of-seat c =
    let stored = c.store.ensures.2 c.in-Some.j refl in
    let fits = stored.1.1 in
    let same = ap (λ (m : Sat). length m.0.truths) stored.0 in
    let all = ap length (same_truths _ _ _ _ c.self.view_is c.seat.view_is c.requires.seat) in
    let most = c.self.invariant.1 in
    kept_done _ _ _ _ c.seat.invariant c.in-Some.j stored.0 stored.1.0 (omega arith)

pub returns-clause-kept : goal.returns-clause-kept
returns-clause-kept c =
    keeps_seat _ _ _ _ _ c.seat.view_is c.store.ensures.0 (all_done _ _ c.in-Some.j (ap (λ (m : Sat). m.0) (c.store.ensures.2 c.in-Some.j refl).0))
