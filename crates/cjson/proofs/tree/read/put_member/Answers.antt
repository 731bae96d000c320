use Rattle.std.proofs.Common.{ap, ◌∙◌}
use Rattle.cjson.specs.Tree.{members_view}
use Rattle.cjson.proofs.Views.{members_view-insert_entry}
use Rattle.cjson.proofs.tree.read.put_member.Goals as goal

pub returns : goal.returns
returns c = ap members_view c.in_ok-insert.ensures.entries ∙ members_view-insert_entry c.args.found.now.entries c.args.name c.args.member
