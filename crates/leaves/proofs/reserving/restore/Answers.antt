use Rattle.std.proofs.Common.{◌∙◌, ap, arith}
use Rattle.leaves.specs.Leaves.{reserved_of}
use Rattle.leaves.proofs.Runs.{only_read, read_stored}
use Rattle.leaves.proofs.reserving.restore.Goals as goal

pub returns-in_err-first-clause-any_moment : goal.returns-in_err-first-clause-any_moment
returns-in_err-first-clause-any_moment g c = only_read _ _ _ _ _ c.bound.ensures.time

pub returns-in_default-clause-any_moment : goal.returns-in_default-clause-any_moment
returns-in_default-clause-any_moment g c = only_read _ _ _ _ _ c.bound.ensures.time

pub returns-in_err-text-clause-any_moment : goal.returns-in_err-text-clause-any_moment
returns-in_err-text-clause-any_moment g c = only_read _ _ _ _ _ c.bound.ensures.time

pub returns-in-Ok-clause-any_moment : goal.returns-in-Ok-clause-any_moment
returns-in-Ok-clause-any_moment g c =
    read_stored c.args.public.now _ _ _ _ _ _ c.deref.result.now c.in-Some.end c.bound.ensures.time c.store.ensures.time
    (ap (reserved_of c.args.public.now) c.deref.ensures.value ∙ c.in_ok-text.ensures.reads)
    (λ q held. grind (arith, c.in_ok-first.ensures.bound q held, c.in-Some.is, c.in-Some.ensures))

pub returns-clause-any_moment : goal.returns-clause-any_moment
returns-clause-any_moment g c =
    read_stored c.args.public.now _ _ _ _ _ _ c.deref.result.now c.in-Some.end c.bound.ensures.time c.store.ensures.time
    (ap (reserved_of c.args.public.now) c.deref.ensures.value ∙ c.in_ok-text.ensures.reads)
    (λ q held. grind (arith, c.in_ok-first.ensures.bound q held, c.in-Some.is, c.in-Some.ensures))
