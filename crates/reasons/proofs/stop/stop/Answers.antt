use Rattle.std.proofs.Common.{ap, ◌∙◌}
use Rattle.examine.specs.Checks.{file_in}
use Rattle.reasons.specs.Stops.{root_keys, step_stop, stop}
use Rattle.reasons.proofs.Along.{gives}
use Rattle.reasons.proofs.stop.stop.Goals as goal

pub returns : goal.returns
returns c =
    let files = file_in c.args.context.now.files.now in
    let now = c.args.context.now.moment in
    let s = c.args.trusted.now in
    gives _ (stop files now s c.args.step c.args.fault) _ _
    (ap (λ k. step_stop files now k s c.args.step c.args.fault) (c.keys_in-keys.ensures ∙ c.in_ok-doc.ensures ∙ ap root_keys c.root.ensures.value))
    c.step_stop.ensures
