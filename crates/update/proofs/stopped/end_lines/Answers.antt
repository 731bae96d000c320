use Rattle.std.proofs.Common.{◌≡◌, ◌∙◌, IfOk, string_bytes, subst, sym}
use Rattle.examine.specs.Checks.{file_in}
use Rattle.update.specs.Runs.{why_text}
use Rattle.update.specs.declared.start.Detail.TheVariants.{Reasons}
use Rattle.whys.specs.Whys.{stop_text}
use Rattle.update.proofs.stopped.end_lines.Goals as goal

pub returns-in-Stopped : goal.returns-in-Stopped
returns-in-Stopped c =
    let files = file_in c.args.files.now in
    let now = c.args.start.now.moment in
    subst (λ e. IfOk c.stop_lines.result (λ text. string_bytes text ≡ why_text Reasons files now c.args.course.now.trusted e)) (sym c.in-Stopped.is ∙ c.end.ensures.value)
    (subst (λ s. IfOk c.stop_lines.result (λ text. string_bytes text ≡ stop_text files now s c.in-Stopped.step c.in-Stopped.fault)) c.trusted.ensures.value c.stop_lines.ensures.lines)
