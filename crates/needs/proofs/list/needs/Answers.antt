use Rattle.std.proofs.Common.{IsTrue}
use Rattle.examine.specs.Checks.{file_in}
use Rattle.needs.specs.Laws.{AreAbsent, HasEnough, IsSettled, are_optional}
use Rattle.needs.specs.Needs.{is_in}
use Rattle.needs.proofs.Answering.{absent-here, enough-here, if_ok, settled-here}
use Rattle.needs.proofs.list.needs.Goals as goal

pub returns-clause-absent : goal.returns-clause-absent
returns-clause-absent g c r is =
    let there = is_in c.args.targets.now in
    let here = is_in c.args.metadata.now in
    if_ok c.listed.result (AreAbsent here there) _ (absent-here r c.args.before.now c.args.course.now c.args.metadata.now there is) c.listed.ensures

pub returns-clause-enough : goal.returns-clause-enough
returns-clause-enough g c r is =
    let there = is_in c.args.targets.now in
    if_ok c.listed.result (λ all. IsTrue (are_optional all) → HasEnough there c.args.course.now) _ (enough-here r c.args.before.now c.args.course.now c.args.metadata.now there is) c.listed.ensures

pub returns-clause-settled : goal.returns-clause-settled
returns-clause-settled g c r is =
    let there = is_in c.args.targets.now in
    if_ok c.listed.result (IsSettled r (file_in c.args.metadata.now)) _ (settled-here r c.args.before.now c.args.course.now c.args.metadata.now there is) c.listed.ensures
