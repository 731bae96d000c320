use Rattle.std.proofs.Common.{◌≡◌, drop}
use Rattle.cjson.specs.Tree.{members_view}
use Rattle.cjson.specs.Form.{each_member}
use Rattle.cjson.proofs.Before.{before}
use Rattle.cjson.proofs.members.read_each_member.Given as goal

abbrev pub invariant-loop-name : goal.invariant-loop-name
invariant-loop-name g l =
    each_member g.T.FromMember.member_form (members_view l.found) ≡ before l.items.items (each_member g.T.FromMember.member_form (members_view (drop l.name-index l.found)))
