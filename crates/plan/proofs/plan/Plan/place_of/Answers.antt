use Rattle.std.proofs.Common.{◌<◌, length, subst, sym, rules}
use Rattle.std.proofs.lemmas.Option.{slice_get_within}
use Rattle.plan.proofs.plan.Plan.place_of.Goals as goal

pub ask-requires : goal.ask-requires
ask-requires c =
    let named = c.self.invariant.1.named _ _ (sym c.in_ok-j.ensures.value) in
    record { below = subst (λ qs. c.in_ok-j.field-0.now < length qs) c.self.view_is (slice_get_within _ _ named.0 named.1) }

pub returns-then-same-clause-some : goal.returns-then-same-clause-some
returns-then-same-clause-some = search rules

pub returns-then-same-clause-none : goal.returns-then-same-clause-none
returns-then-same-clause-none = search rules
