use Rattle.std.proofs.Common.{◌∙◌, ap}
use Rattle.examine.specs.Checks.{file_in}
use Rattle.cycle.specs.Workflow.{course}
use Rattle.lookups.specs.Lookups as spec
use Rattle.lookups.proofs.Reading.{part_still}
use Rattle.lookups.proofs.Settling.{settled_whole}
use Rattle.lookups.proofs.metadata.Metadata.follow.Goals as goal

pub read_rest-requires : goal.read_rest-requires
read_rest-requires g c = record { part = part_still _ _ _ c.loop-left.invariant.same c.loop-left.invariant.part }

pub returns-clause-settled : goal.returns-clause-settled
returns-clause-settled g c = settled_whole _ _ c.in_ok-follow_on.field-0
    (c.in_ok-follow_on.ensures.course ∙ ap (λ k. course (spec.request_of k c.args.asked.now) (file_in c.read_rest.new.self.repo.metadata)) c.loop-left.invariant.state) c.in_ok-read_rest.ensures.whole
