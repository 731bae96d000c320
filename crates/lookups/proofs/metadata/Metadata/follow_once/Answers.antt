use Rattle.std.proofs.Common.{rules, subst, sym, ap, ◌∙◌}
use Rattle.lookups.proofs.Settling.{settled_once}
use Rattle.lookups.specs.Lookups as spec
use Rattle.lookups.proofs.metadata.Metadata.follow_once.Goals as goal

pub returns-else-branch-clause-settled : goal.returns-else-branch-clause-settled
returns-else-branch-clause-settled g c =
    settled_once (spec.request_of c.args.keeper.now c.args.asked.now) c.args.self.now c.read_needed.new.self c.in_ok-course.course c.as_slice.result.now
    c.in_ok-course.ensures.course (search rules) (c.in_ok-read_needed.ensures.none (search rules))
