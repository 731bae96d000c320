use Rattle.embed.specs.Inputs.{givens_by, held_in}
use Rattle.embed.proofs.Courses.{no_targets, outcome_is}
use Rattle.embed.proofs.Targets.{none_held}
use Rattle.embed.proofs.verifying.judged_of.Goals as goal

pub returns-in_err-add_targets-clause-errors : goal.returns-in_err-add_targets-clause-errors
returns-in_err-add_targets-clause-errors c =
    no_targets c.args.job.now c.in_err-add_targets.field-0.0 c.from_residual-in_err-add_targets.result c.in_err-add_targets.ensures.errors c.from_residual-in_err-add_targets.ensures.1

pub returns-clause-outcome : goal.returns-clause-outcome
returns-clause-outcome c =
    outcome_is c.args.job.now c.in_ok-input.input.trusted (held_in c.add_targets.new.all) c.in_ok-course.course c.in_ok-close.field-0.outcome (givens_by c.in_ok-close.field-0.files.items)
    c.in_ok-input.ensures.input.trusted (c.in_ok-course.ensures c.args.job.now c.in_ok-input.ensures.input)
    (c.in_ok-add_targets.ensures.added (none_held c.new-targets.result c.new-targets.ensures.empty)) c.in_ok-close.ensures.outcome c.in_ok-close.ensures.files
