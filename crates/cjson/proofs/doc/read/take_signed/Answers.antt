use Rattle.std.proofs.Common.{codes, option_map, sym, ap, ◌∙◌, rules}
use Rattle.cjson.specs.Tree.{view, members_view}
use Rattle.cjson.proofs.Trees.{found_at, signed_of-some, signed_of-other, signed_of-none}
use Rattle.cjson.proofs.doc.read.take_signed.Goals as goal

pub returns-in_default : goal.returns-in_default
returns-in_default c =
    let none = found_at (codes "signed") c.args.members c.take.result c.take.ensures.value ∙ ap (option_map view) c.in_default.is in
    sym (signed_of-none (members_view c.args.members) none)

pub returns-then-not-is_object : goal.returns-then-not-is_object
returns-then-not-is_object c =
    let found = found_at (codes "signed") c.args.members c.take.result c.take.ensures.value ∙ ap (option_map view) c.in-Some.is in
    sym (signed_of-other (members_view c.args.members) (view c.in-Some.signed) found (search rules))

pub returns : goal.returns
returns c =
    let found = found_at (codes "signed") c.args.members c.take.result c.take.ensures.value ∙ ap (option_map view) c.in-Some.is in
    sym (signed_of-some (members_view c.args.members) (view c.in-Some.signed) found (search rules))
