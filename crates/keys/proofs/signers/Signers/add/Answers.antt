use Rattle.std.proofs.Common.{◌≡◌, ap, sym, ◌∙◌, false}
use Rattle.std.specs.FinSet as set
use Rattle.keys.proofs.Sets.{values, values_push, added_len, insert_again}
use Rattle.keys.proofs.signers.Signers.add.Goals as goal

pub invariant_of-self : goal.invariant_of-self
invariant_of-self c =
    let new : set.contains (values c.self.inside.publics.items) c.args.public.now ≡ false =
    ap (λ s. set.contains s c.args.public.now) c.self.view_is ∙ sym c.has.ensures.value ∙ c.if-not-has.true in
    rw c.in_ok-push.ensures.items (added_len _ _ _ _ new c.self.invariant c.in_ok-push.ensures.len)

pub returns-in_ok-push-clause-ok : goal.returns-in_ok-push-clause-ok
returns-in_ok-push-clause-ok c =
    ap values c.in_ok-push.ensures.items ∙ values_push _ _ ∙ ap (λ s. set.insert s c.args.public.now) c.self.view_is

pub returns-else-not-has-clause-ok : goal.returns-else-not-has-clause-ok
returns-else-not-has-clause-ok c = sym (insert_again _ _ (sym c.has.ensures.value ∙ c.if-not-has.false))
