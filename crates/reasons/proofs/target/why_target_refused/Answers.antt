use Rattle.std.proofs.Common.{ap, ◌∙◌, option_map}
use Rattle.reasons.specs.Reasons.{fault_of, reason_in}
use Rattle.reasons.proofs.Found.{found}
use Rattle.reasons.proofs.target.why_target_refused.Goals as goal

pub returns-clause-fault : goal.returns-clause-fault
returns-clause-fault c file h =
    ap (option_map fault_of) (c.reason_in.ensures ∙ ap reason_in c.target_check.ensures) ∙ found c.args.target.now _ file h
