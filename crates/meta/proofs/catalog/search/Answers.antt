use Rattle.std.proofs.Common.{rules, of_calls, nat_cmp, sym}
use Rattle.std.specs.Cmp.Lexicographic.{slice_cmp}
use Rattle.std.proofs.lemmas.Fn.{always_returns_same}
use Rattle.meta.proofs.Ascending.{comparisons_rise, found_at, found_none}
use Rattle.meta.proofs.catalog.search.Goals as goal

pub returns-in-Ok : goal.returns-in-Ok
returns-in-Ok g c =
    let name = g.T.HasName.name_of in
    let here = c.in-Ok.ensures.position (λ a. slice_cmp nat_cmp (name a) c.args.name.now) (always_returns_same _ _ _ (λ a r f k. search (rules, of_calls))) in
    sym (found_at name c.args.items.now c.requires c.args.name.now c.in-Ok.place _ c.in-Ok.ensures.bound here c.index-items-place.is)

pub returns-in-Err : goal.returns-in-Err
returns-in-Err g c =
    let name = g.T.HasName.name_of in
    let parts = c.in-Err.ensures.position (λ a. slice_cmp nat_cmp (name a) c.args.name.now) (always_returns_same _ _ _ (λ a r f k. search (rules, of_calls))) in
    sym (found_none name c.args.items.now c.requires c.args.name.now _ (parts (comparisons_rise name c.args.items.now c.requires c.args.name.now)))
