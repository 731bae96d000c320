use Rattle.cjson.proofs.Trees.{tree_of-whole, tree_of-none}
use Rattle.cjson.proofs.tree.read.read_tree.Goals as goal

pub returns-in-Ok : goal.returns-in-Ok
returns-in-Ok c =
    let cases = c.in-Ok.ensures.cases in
    record { tree = tree_of-whole c.args.bytes.now c.in-Ok.text.now c.read_whole.result cases.0 cases.1 c.read_whole.ensures.ok c.read_whole.ensures.err }

pub returns-in-Err : goal.returns-in-Err
returns-in-Err c = record { tree = tree_of-none c.args.bytes.now (λ utf8. absurd (c.in-Err.ensures.cases.0 utf8)) }
