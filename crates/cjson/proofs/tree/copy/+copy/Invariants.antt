use Rattle.std.proofs.Common.{◌≡◌, List, ◌++◌, take, map}
use Rattle.serde_json.specs.View as data_of
use Rattle.serde_json.proofs.Views.{Entry}
use Rattle.cjson.specs.Tree.{view, members_view}
use Rattle.cjson.proofs.tree.copy.+copy.Given as goal

abbrev pub invariant-copy_items-loop-item : goal.invariant-copy_items-loop-item
invariant-copy_items-loop-item l = map view l.copies.items ≡ map data_of.view (take l.item-index l.item-items)

abbrev pub invariant-copy_members-loop-key : goal.invariant-copy_members-loop-key
invariant-copy_members-loop-key l =
    (done : List Entry) × (l.members.entries ≡ done ++ l.key-iterator) × (members_view l.copies.entries ≡ data_of.members_view done)
