use Rattle.std.proofs.Common.{◌≡◌, ◌+◌, ◌-◌, not, ltb, ◌∷◌, ◌++◌, drop, length, map, string_bytes, sym, ◌∙◌, ap, arith}
use Rattle.std.proofs.lemmas.Grind.{common_steps}
use Rattle.needs.specs.Needs.{absent, is_in, is_none_of, name_needs}
use Rattle.needs.specs.declared.need.Place.TheVariants.{Targets}
use Rattle.needs.proofs.Lists.{next_name, some_left, up_to}
use Rattle.needs.proofs.searches.name_needs.Goals as goal

pub returns-then-contains_key : goal.returns-then-contains_key
returns-then-contains_key g c =
    let there = is_in c.args.targets.now in
    let e = c.name-item.result in
    let rest = drop (c.loop-name.name-index + 1) c.args.names.now in
    let step : drop c.loop-name.name-index c.args.names.now ≡ e ∷ rest = grind (arith, common_steps) in
    up_to there c.args.most c.loop-name.needs.items (string_bytes e) (map string_bytes rest)
    (ap there (sym c.as_str.ensures.value) ∙ sym c.contains_key.ensures ∙ c.if-contains_key.true)
    ∙ ap (λ names. c.loop-name.needs.items ++ name_needs there c.args.most (map string_bytes names)) (sym step)
    ∙ c.loop-name.invariant.so_far

pub loop-name-preserved : goal.loop-name-preserved
loop-name-preserved g c =
    let there = is_in c.args.targets.now in
    let e = c.name-item.result in
    let rest = drop (c.loop-name.name-index + 1) c.args.names.now in
    let step : drop c.loop-name.name-index c.args.names.now ≡ e ∷ rest = grind (arith, common_steps) in
    let fewer : c.loop-name.left ≡ length (e ∷ rest) = c.loop-name.invariant.left ∙ ap length step in
    let left : ltb 0 (c.loop-name.left - 1) ≡ not (is_none_of (map string_bytes rest)) = ap (ltb 0) (omega (arith, fewer)) ∙ sym (some_left rest) in
    let name = c.new.ensures.value ∙ c.in_ok-from_str.ensures.ok ∙ c.as_str-in-loop-name.ensures.value in
    record {
      left = omega (arith, fewer);
      so_far =
          ap (λ items. items ++ name_needs there c.args.most (map string_bytes rest)) c.in_ok-push.ensures.items
          ∙ next_name there c.args.most c.loop-name.needs.items (string_bytes e) (map string_bytes rest) _
          (ap there (sym c.as_str.ensures.value) ∙ sym c.contains_key.ensures ∙ c.if-contains_key.false)
          (ap (λ optional. absent Targets optional c.new.result c.args.most) left ∙ ap (λ name. absent Targets (not (is_none_of (map string_bytes rest))) name c.args.most) name)
          ∙ ap (λ names. c.loop-name.needs.items ++ name_needs there c.args.most (map string_bytes names)) (sym step)
          ∙ c.loop-name.invariant.so_far;
    }
