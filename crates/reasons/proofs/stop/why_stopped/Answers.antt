use Rattle.std.proofs.Common.{option_map}
use Rattle.examine.specs.Checks.{file_in}
use Rattle.reasons.specs.Reasons.{fault_of}
use Rattle.reasons.proofs.Along.{if_same}
use Rattle.reasons.proofs.Told.{stop_told}
use Rattle.reasons.proofs.stop.why_stopped.Goals as goal

pub returns-clause-value : goal.returns-clause-value
returns-clause-value c = c.reason_of.ensures _ c.stop.ensures

pub returns-clause-reason : goal.returns-clause-reason
returns-clause-reason c from e =
    if_same _ _ (option_map fault_of) _ (c.reason_of.ensures _ c.stop.ensures)
    (stop_told (file_in c.args.context.now.files.now) c.args.context.now.moment from c.args.trusted.now c.args.step c.args.fault e)
