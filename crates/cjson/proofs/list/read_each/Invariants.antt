use Rattle.std.proofs.Common.{◌≡◌, drop}
use Rattle.cjson.specs.Tree.{items_view}
use Rattle.cjson.specs.Form.{each}
use Rattle.cjson.proofs.Before.{before}
use Rattle.cjson.proofs.list.read_each.Given as goal

abbrev pub invariant-loop-item : goal.invariant-loop-item
invariant-loop-item g l =
    each g.T.FromJson.form (items_view l.found) ≡ before l.items.items (each g.T.FromJson.form (items_view (drop l.item-index l.found)))
