use Rattle.std.proofs.Common.{◌∙◌, ap, ◌+◌, ◌++◌, ◌∷◌, [], arith, subst, sym, take, IsTrue}
use Rattle.std.proofs.lemmas.List.{take_more}
use Rattle.lms.specs.Lms.{is_valid}
use Rattle.leaves.proofs.Runs.{hands_fewer, hands_next, signed_more}
use Rattle.leaves.proofs.signing.sign_each.Goals as goal

pub returns-in_err-sign_next-clause-any_moment : goal.returns-in_err-sign_next-clause-any_moment
returns-in_err-sign_next-clause-any_moment g c =
    hands_fewer _ (c.messages.message-index + 1) _ _ _ _ _ (omega arith)
    (hands_next _ _ c.messages.message-index _ _ _ _ _ _ c.messages.invariant.next c.messages.invariant.passes c.sign_next.ensures.any_moment)

pub messages-preserved : goal.messages-preserved
messages-preserved g c = record {
  passes = hands_next _ _ c.messages.message-index _ _ _ _ _ _ c.messages.invariant.next c.messages.invariant.passes c.sign_next.ensures.any_moment;
  next = c.in_ok-sign_next.ensures.next ∙ ap (λ n. n + 1) c.messages.invariant.next ∙ omega arith;
  public = c.sign_next.ensures.public ∙ c.messages.invariant.public;
  signed =
      let next = c.in_ok-sign_next.ensures.signed in
      let msg = c.message-item.result in
      let xs = c.args.messages.now in
      let i = c.messages.message-index in
      signed_more (g.K.Key.public c.args.key.now) (g.K.Key.public c.messages.key) (take i xs) (take (i + 1) xs) msg
      (g.D.Disk.left_at c.args.disk.now (g.D.Disk.moment c.args.disk.now))
      (g.D.Disk.left_at c.messages.disk (g.D.Disk.moment c.messages.disk))
      (g.D.Disk.left_at c.sign_next.new.disk (g.D.Disk.moment c.sign_next.new.disk))
      c.messages.invariant.public
      (take_more xs i msg c.messages-test.true ∙ ap (λ m. take i xs ++ m ∷ []) (sym c.message-item.is))
      c.messages.invariant.signed
      (next.0, subst (λ m. IsTrue (is_valid (g.K.Key.public c.messages.key) m next.0)) c.deref.ensures.value next.1, next.2);
}
