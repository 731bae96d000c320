use Rattle.std.proofs.Common.{option_map}
use Rattle.examine.specs.Checks.{file_in}
use Rattle.reasons.specs.Reasons.{by, fault_of}
use Rattle.reasons.proofs.Along.{if_same}
use Rattle.reasons.proofs.Roled.{role_told}
use Rattle.reasons.proofs.role.why_role_refused.Goals as goal

pub returns-clause-value : goal.returns-clause-value
returns-clause-value c = c.reason_of.ensures _ c.role_check.ensures

pub returns-clause-fault : goal.returns-clause-fault
returns-clause-fault c =
    if_same _ _ (option_map fault_of) _ (c.reason_of.ensures _ c.role_check.ensures)
    (role_told (file_in c.args.context.now.files.now) c.args.context.now.moment c.args.root.now c.args.snapshot.now c.args.name.now (by c.args.by.now))
