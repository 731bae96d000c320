use Rattle.std.proofs.Common.{◌∙◌, sym}
use Rattle.inout.proofs.Spelling.{all_spelled, no_text, spelled}
use Rattle.inout.proofs.moments.moment_text.Goals as goal

pub returns-in-Some-clause-spelled : goal.returns-in-Some-clause-spelled
returns-in-Some-clause-spelled c = all_spelled c.args.moment c.text_on.result c.text_on.ensures.text

pub returns-in-None-clause-text : goal.returns-in-None-clause-text
returns-in-None-clause-text c = c.new.ensures.bytes ∙ sym (no_text c.args.moment c.in-None.ensures.date)

pub returns-in-None-clause-spelled : goal.returns-in-None-clause-spelled
returns-in-None-clause-spelled c =
    λ other spells. c.new.ensures.bytes ∙ sym (no_text c.args.moment c.in-None.ensures.date) ∙ spelled other c.args.moment spells
