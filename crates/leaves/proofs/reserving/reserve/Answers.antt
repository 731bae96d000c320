use Rattle.std.proofs.Common.{◌≡◌, ◌∙◌, ap, Some, sym, arith, ◌+◌}
use Rattle.leaves.specs.Leaves.{reserved_of}
use Rattle.leaves.proofs.Runs.{below_read, only_read, read_stored, was_there}
use Rattle.leaves.proofs.reserving.reserve.Goals as goal

pub returns-in-Ok-None-clause-any_moment : goal.returns-in-Ok-None-clause-any_moment
returns-in-Ok-None-clause-any_moment g c = only_read _ _ _ _ _ c.read.ensures.time

pub returns-in_err-text-clause-any_moment : goal.returns-in_err-text-clause-any_moment
returns-in_err-text-clause-any_moment g c = only_read _ _ _ _ _ c.read.ensures.time

pub returns-in-Ok-clause-any_moment : goal.returns-in-Ok-clause-any_moment
returns-in-Ok-clause-any_moment g c =
    let a = g.D.Disk.left_at c.args.disk.now (g.D.Disk.moment c.args.disk.now) in
    let text = c.in-Ok-Some.text in
    let was = was_there a c.in-Ok-Some.field-0 text c.in-Ok-Some.field-0-is c.in-Ok-Some.ensures.read in
    let first = c.in-Some.first in
    let reads : reserved_of c.args.public.now text.items ≡ Some first =
    ap (reserved_of c.args.public.now) (sym c.deref.ensures.value) ∙ sym c.reserved_of.ensures.reserved ∙ c.in-Some.is in
    read_stored c.args.public.now _ _ _ _ _ _ c.deref-2.result.now (first + c.args.count) c.read.ensures.time c.store.ensures.time
    (ap (reserved_of c.args.public.now) c.deref-2.ensures.value ∙ c.in_ok-text.ensures.reads)
    (λ q held. omega (arith, below_read c.args.public.now a (Some text.items) first q was reads held))

pub returns-clause-any_moment : goal.returns-clause-any_moment
returns-clause-any_moment g c =
    let a = g.D.Disk.left_at c.args.disk.now (g.D.Disk.moment c.args.disk.now) in
    let text = c.in-Ok-Some.text in
    let was = was_there a c.in-Ok-Some.field-0 text c.in-Ok-Some.field-0-is c.in-Ok-Some.ensures.read in
    let first = c.in-Some.first in
    let reads : reserved_of c.args.public.now text.items ≡ Some first =
    ap (reserved_of c.args.public.now) (sym c.deref.ensures.value) ∙ sym c.reserved_of.ensures.reserved ∙ c.in-Some.is in
    read_stored c.args.public.now _ _ _ _ _ _ c.deref-2.result.now (first + c.args.count) c.read.ensures.time c.store.ensures.time
    (ap (reserved_of c.args.public.now) c.deref-2.ensures.value ∙ c.in_ok-text.ensures.reads)
    (λ q held. omega (arith, below_read c.args.public.now a (Some text.items) first q was reads held))
