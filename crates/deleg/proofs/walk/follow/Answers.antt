use Rattle.std.proofs.Common.{◌∙◌, sym, arith}
use Rattle.deleg.specs.Search.{edge_of}
use Rattle.deleg.proofs.Stack.{for_path-first, leaves, skips, stops, refuses, finds, enters}
use Rattle.deleg.proofs.walk.follow.Goals as goal

pub returns-in_default-clause-step : goal.returns-in_default-clause-step
returns-in_default-clause-step g c = λ others. leaves c.args.query.now c.args.seen.now.items c.args.frame.now others c.in_default.ensures

pub returns-then-is_visited-clause-step : goal.returns-then-is_visited-clause-step
returns-then-is_visited-clause-step g c = λ others.
    skips c.args.query.now c.args.seen.now.items c.args.frame.now others (edge_of c.in-Some.edge) c.in-Some.ensures (for_path-first c.args.query.now.path.now c.args.frame.now (edge_of c.in-Some.edge) c.in-Some.ensures c.requires.first)
    (rw c.as_slice.ensures.value at (sym c.if-is_visited.ensures))

pub returns-then-len-query-clause-step : goal.returns-then-len-query-clause-step
returns-then-len-query-clause-step g c = λ others.
    stops c.args.query.now c.args.seen.now.items c.args.frame.now others (edge_of c.in-Some.edge) c.in-Some.ensures (for_path-first c.args.query.now.path.now c.args.frame.now (edge_of c.in-Some.edge) c.in-Some.ensures c.requires.first)
    (rw c.as_slice.ensures.value at (sym c.if-is_visited.ensures)) (omega arith)

pub returns-in-Err-Refused-clause-step : goal.returns-in-Err-Refused-clause-step
returns-in-Err-Refused-clause-step g c = λ others.
    refuses c.args.query.now c.args.seen.now.items c.args.frame.now others (edge_of c.in-Some.edge) c.in-Some.ensures (for_path-first c.args.query.now.path.now c.args.frame.now (edge_of c.in-Some.edge) c.in-Some.ensures c.requires.first)
    (rw c.as_slice.ensures.value at (sym c.if-is_visited.ensures)) c.new-role.result (c.new-role.ensures.value ∙ c.in_ok-from_str.ensures.ok) (omega arith)
    c.in-Err-Refused.fault (rw c.in-Err-Refused.field-0-is at c.in-Err-Refused.ensures.answer)

pub returns-in-Some-2-clause-step : goal.returns-in-Some-2-clause-step
returns-in-Some-2-clause-step g c = λ others.
    finds c.args.query.now c.args.seen.now.items c.args.frame.now others (edge_of c.in-Some.edge) c.in-Some.ensures (for_path-first c.args.query.now.path.now c.args.frame.now (edge_of c.in-Some.edge) c.in-Some.ensures c.requires.first)
    (rw c.as_slice.ensures.value at (sym c.if-is_visited.ensures)) c.new-role.result (c.new-role.ensures.value ∙ c.in_ok-from_str.ensures.ok) (omega arith)
    c.in-Ok.entered.file c.in-Ok.ensures.answer c.accept.new.seen.items c.in_ok-found.ensures.accepted c.in-Some-2.found (sym c.in-Some-2.is ∙ c.in_ok-found.ensures.found)

pub returns-clause-step : goal.returns-clause-step
returns-clause-step g c = λ others.
    enters c.args.query.now c.args.seen.now.items c.args.frame.now others (edge_of c.in-Some.edge) c.in-Some.ensures (for_path-first c.args.query.now.path.now c.args.frame.now (edge_of c.in-Some.edge) c.in-Some.ensures c.requires.first)
    (rw c.as_slice.ensures.value at (sym c.if-is_visited.ensures)) c.new-role.result (c.new-role.ensures.value ∙ c.in_ok-from_str.ensures.ok) (omega arith)
    c.in-Ok.entered.file c.in-Ok.ensures.answer c.accept.new.seen.items c.in_ok-found.ensures.accepted c.in_ok-below.below (sym c.in_default-2.is ∙ c.in_ok-found.ensures.found) c.in_ok-below.ensures.edges
