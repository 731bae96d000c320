use Rattle.std.proofs.Common.{◌≡◌, ◌∷◌, String, Global, string_bytes, bytes_eq, true, false, sym, ap, ◌∙◌, rules}
use Rattle.std.specs.Vec.Iter.{into_iter_items}
use Rattle.cjson.specs.Names.{named}
use Rattle.cjson.proofs.Named.{named-here, named-later}
use Rattle.cjson.proofs.sorted.Sorted.take.Goals as goal

pub returns-then-eq : goal.returns-then-eq
returns-then-eq g c =
    let name = c.args.name.now in
    let e : String Global × g.row.T.Denot = (c.in-Some.found, c.in-Some.value) in
    let step : into_iter_items c.loop-found.found-iterator ≡ e ∷ into_iter_items c.next.new.self = search rules in
    let is : bytes_eq name (string_bytes e.0) ≡ true = search rules in
    let all : into_iter_items c.into_iter-found-iterator.result ≡ c.args.self = search rules in
    record { value = sym (ap (named name) (sym all) ∙ sym c.loop-found.invariant ∙ ap (named name) step ∙ named-here name e (into_iter_items c.next.new.self) is) }

pub loop-found-preserved : goal.loop-found-preserved
loop-found-preserved g c =
    let name = c.args.name.now in
    let e : String Global × g.row.T.Denot = (c.in-Some.found, c.in-Some.value) in
    let step : into_iter_items c.loop-found.found-iterator ≡ e ∷ into_iter_items c.next.new.self = search rules in
    let is : bytes_eq name (string_bytes e.0) ≡ false = search rules in
    sym (named-later name e (into_iter_items c.next.new.self) is) ∙ ap (named name) (sym step) ∙ c.loop-found.invariant
