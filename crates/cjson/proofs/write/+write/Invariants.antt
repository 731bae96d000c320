use Rattle.std.proofs.Common.{◌≡◌, ◌++◌, drop, false, IsUtf8}
use Rattle.cjson.specs.Tree.{items_view, members_view}
use Rattle.cjson.specs.Canon.{items_text, members_text, items_are_whole, members_are_whole, items_are_ordered, members_are_ordered}
use Rattle.cjson.proofs.write.+write.Given as goal

-- what was written, with the text of the items that are left; those before had whole numbers and were ordered
abbrev pub invariant-write_items-loop-item : goal.invariant-write_items-loop-item
invariant-write_items-loop-item l =
    let left = items_view (drop l.item-index l.item-items) in
    let all = items_view l.item-items in
    (l.out.items ++ items_text l.later left ≡ l.initial.out.items ++ items_text false all)
    × (items_are_whole left ≡ items_are_whole all) × (items_are_ordered left ≡ items_are_ordered all)
    × (IsUtf8 l.initial.out.items → IsUtf8 l.out.items)

abbrev pub invariant-write_members-loop-key : goal.invariant-write_members-loop-key
invariant-write_members-loop-key l =
    let left = members_view (drop l.key-index l.key-items) in
    let all = members_view l.key-items in
    (l.out.items ++ members_text l.later left ≡ l.initial.out.items ++ members_text false all)
    × (members_are_whole left ≡ members_are_whole all) × (members_are_ordered left ≡ members_are_ordered all)
    × (l.key-items ≡ l.members)
    × (IsUtf8 l.initial.out.items → IsUtf8 l.out.items)
