use Rattle.std.proofs.Common.{◌∙◌}
use Rattle.needs.specs.Needs.{is_in}
use Rattle.embed.proofs.Courses.{next_is, no_targets}
use Rattle.embed.proofs.Files.{in_files, in_held}
use Rattle.embed.proofs.Targets.{none_held}
use Rattle.embed.proofs.fetching.next.Goals as goal

pub returns-in_err-add_targets-clause-errors : goal.returns-in_err-add_targets-clause-errors
returns-in_err-add_targets-clause-errors c =
    no_targets c.args.job.now c.in_err-add_targets.field-0.0 c.from_residual-in_err-add_targets.result c.in_err-add_targets.ensures.errors c.from_residual-in_err-add_targets.ensures.1

pub returns-clause-next : goal.returns-clause-next
returns-clause-next c =
    next_is c.args.job.now c.in_ok-input.input.trusted c.in_ok-course.course c.as_slice.result.now (is_in c.in_ok-input.input.repo.metadata) (is_in c.add_targets.new.all) c.missing_of.result
    c.in_ok-input.ensures.input.trusted (c.in_ok-course.ensures c.args.job.now c.in_ok-input.ensures.input) (c.as_slice.ensures.value ∙ c.in_ok-found.ensures.needs)
    (in_files c.in_ok-input.input.repo.metadata _ c.in_ok-input.ensures.input.metadata) (in_held c.add_targets.new.all _ (c.in_ok-add_targets.ensures.added (none_held c.new-targets.result c.new-targets.ensures.empty)))
    c.missing_of.ensures.rows
