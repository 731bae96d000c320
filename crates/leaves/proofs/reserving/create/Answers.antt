use Rattle.std.proofs.Common.{◌∙◌, ap}
use Rattle.leaves.specs.Leaves.{reserved_of}
use Rattle.leaves.proofs.Runs.{none_reserved, only_read, read_stored, was_missing, was_there}
use Rattle.leaves.proofs.reserving.create.Goals as goal

pub returns-in-Ok-Some-clause-any_moment : goal.returns-in-Ok-Some-clause-any_moment
returns-in-Ok-Some-clause-any_moment g c = only_read _ _ _ _ _ c.read.ensures.time

pub returns-in-Ok-Some-clause-exists : goal.returns-in-Ok-Some-clause-exists
returns-in-Ok-Some-clause-exists g c _ = (
  c.in-Ok-Some._text.items,
  was_there (g.D.Disk.left_at c.args.disk.now (g.D.Disk.moment c.args.disk.now)) c.in-Ok-Some.field-0 c.in-Ok-Some._text c.in-Ok-Some.field-0-is c.in-Ok-Some.ensures.read,
)

pub returns-in-Err-clause-any_moment : goal.returns-in-Err-clause-any_moment
returns-in-Err-clause-any_moment g c = only_read _ _ _ _ _ c.read.ensures.time

pub returns-in-Ok-clause-any_moment : goal.returns-in-Ok-clause-any_moment
returns-in-Ok-clause-any_moment g c =
    read_stored c.args.public.now _ _ _ _ _ _ c.deref.result.now 0 c.read.ensures.time c.store.ensures.time
    (ap (reserved_of c.args.public.now) c.deref.ensures.value ∙ c.in_ok-text.ensures.reads)
    (λ q held. absurd (none_reserved c.args.public.now (g.D.Disk.left_at c.args.disk.now (g.D.Disk.moment c.args.disk.now)) q (was_missing (g.D.Disk.left_at c.args.disk.now (g.D.Disk.moment c.args.disk.now)) _ c.in-Ok-None.field-0-is c.in-Ok-None.ensures.read) held))

pub returns-clause-any_moment : goal.returns-clause-any_moment
returns-clause-any_moment g c =
    read_stored c.args.public.now _ _ _ _ _ _ c.deref.result.now 0 c.read.ensures.time c.store.ensures.time
    (ap (reserved_of c.args.public.now) c.deref.ensures.value ∙ c.in_ok-text.ensures.reads)
    (λ q held. absurd (none_reserved c.args.public.now (g.D.Disk.left_at c.args.disk.now (g.D.Disk.moment c.args.disk.now)) q (was_missing (g.D.Disk.left_at c.args.disk.now (g.D.Disk.moment c.args.disk.now)) _ c.in-Ok-None.field-0-is c.in-Ok-None.ensures.read) held))
