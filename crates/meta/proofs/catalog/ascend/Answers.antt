use Rattle.std.proofs.Common.{rules, of_calls, nat_cmp, Ordering, Less, Equal, Greater, true, ◌≡◌, refl}
use Rattle.std.specs.Cmp.Lexicographic.{slice_cmp}
use Rattle.std.specs.Ordering.{is_lt}
use Rattle.std.proofs.lemmas.Fn.{always_returns_same}
use Rattle.meta.proofs.catalog.ascend.Goals as goal

is_below : (o : Ordering) → true ≡ is_lt o → o ≡ Less
is_below Less is = refl
is_below Equal is = cc
is_below Greater is = cc

pub returns : goal.returns
returns g c =
    let name = g.T.HasName.name_of in
    let cases = c.is_sorted_by.ensures.cases (λ a b. is_lt (slice_cmp nat_cmp (name a) (name b))) (always_returns_same _ _ _ (λ a r f k. search (rules, of_calls))) in
    λ yes k d high. is_below _ ((rw yes at cases) k d high)
