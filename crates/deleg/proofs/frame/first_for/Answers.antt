use Rattle.std.proofs.Common.{◌∙◌, sym}
use Rattle.deleg.specs.Search.{edge_of, edges_by}
use Rattle.deleg.proofs.Stack.{from_next, from_none, from_this}
use Rattle.deleg.proofs.frame.first_for.Goals as goal

pub loop-place-preserved : goal.loop-place-preserved
loop-place-preserved c =
    from_next c.args.path.now (edges_by c.args.bin.now c.args.targets.now) c.loop-place.place (edge_of c.in-Some.edge) c.in-Some.ensures.edge (sym c.if-not-is_for.ensures.test)
    ∙ c.loop-place.invariant

pub returns-in_default : goal.returns-in_default
returns-in_default c =
    from_this c.args.path.now (edges_by c.args.bin.now c.args.targets.now) c.loop-place.place (edge_of c.in-Some.edge) c.in-Some.ensures.edge (sym c.if-not-is_for.ensures.test)
    ∙ c.loop-place.invariant

pub returns-in_default-2 : goal.returns-in_default-2
returns-in_default-2 c =
    from_none c.args.path.now (edges_by c.args.bin.now c.args.targets.now) c.loop-place.place (rw c.in_default.is at c.edge_at.ensures.edge)
    ∙ c.loop-place.invariant
