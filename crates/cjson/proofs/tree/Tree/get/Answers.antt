use Rattle.std.proofs.Common.{◌≡◌, ap, sym, ◌∙◌, rules}
use Rattle.serde_json.specs.Find.{get}
use Rattle.cjson.specs.Tree.{view}
use Rattle.cjson.specs.declared.tree.Tree.{Object}
use Rattle.cjson.proofs.Views.{found_in, view-Object}
use Rattle.cjson.proofs.tree.Tree.get.Goals as goal

pub returns-in-Object : goal.returns-in-Object
returns-in-Object c =
    let is : c.args.self.now ≡ Object c.in-Object.members = search rules in
    record { value = found_in c.args.name.now c.in-Object.members c.get.result c.get.ensures.value ∙ ap (get c.args.name.now) (sym (ap view is ∙ view-Object c.in-Object.members)) }
