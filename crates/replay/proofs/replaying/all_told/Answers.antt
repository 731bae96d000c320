use Rattle.std.proofs.Common.{◌≡◌, ◌<◌, ◌∙◌, ◌++◌, ◌∷◌, [], ap, arith, length, map, refl, rules, string_bytes, subst, sym}
use Rattle.std.specs.Vec.Iter.{into_iter_items}
use Rattle.replay.specs.Cycles.{AreToldOn, first_of}
use Rattle.replay.proofs.Causing.{same_read}
use Rattle.update.proofs.Ending.{carried}
use Rattle.replay.proofs.Cycling.{counted_more, cycle_more, none_yet, state_more, told_before}
use Rattle.replay.proofs.Places.{all_done, same_all, none_left, same_then, set_cause, set_same, turn, turn_below}
use Rattle.lookups.proofs.Reading.{part_still}
use Rattle.replay.proofs.replaying.all_told.Goals as goal

pub loop-one-init : goal.loop-one-init
loop-one-init g c = record {
  can = search rules;
  ends = search rules;
  len = search rules;
  done = [];
  todo = _;
  all = refl;
  count = ap length c.new-all.ensures.items;
  opened = search rules;
  told = none_yet c.args.begun.now.start.now.detail (first_of c.args.begun.now.start.now c.args.begun.now.wanted.now) _ c.new-all.ensures.items;
  state = search rules;
  same = same_all _;
}

pub index_mut-here-requires : goal.index_mut-here-requires
index_mut-here-requires g c =
    let was = c.loop-one.invariant in
    let at : c.len.result ≡ length c.loop-one.all.items = search rules in
    let below : c.len.result < length c.loop-one.folders.items = turn_below _ _ was.done was.todo c.loop-one.folders.items c.len.result _ _ c.in-Some.one was.all was.same was.opened c.in-Some.ensures.steps.0 (at ∙ was.count) in
    search rules

pub told-requires-clause-metadata : goal.told-requires-clause-metadata
told-requires-clause-metadata g c κs within =
    let was = c.loop-one.invariant in
    let at : c.len.result ≡ length c.loop-one.all.items = search rules in
    let now = turn _ _ was.done was.todo c.loop-one.folders.items c.len.result _ _ c.in-Some.one was.all was.same was.opened c.in-Some.ensures.steps.0 (at ∙ was.count) c.index_mut-here.result.now c.index_mut-here.ensures.value in
    part_still _ _ c.in-Some.one.metadata now.same.metadata now.opened.metadata

pub told-requires-clause-names : goal.told-requires-clause-names
told-requires-clause-names g c κs within =
    let was = c.loop-one.invariant in
    let at : c.len.result ≡ length c.loop-one.all.items = search rules in
    let now = turn _ _ was.done was.todo c.loop-one.folders.items c.len.result _ _ c.in-Some.one was.all was.same was.opened c.in-Some.ensures.steps.0 (at ∙ was.count) c.index_mut-here.result.now c.index_mut-here.ensures.value in
    ap (λ l. l (map string_bytes c.in-Some.one.names.items)) now.same.targets.lists ∙ now.opened.names

pub returns-in_err-told-clause-cause : goal.returns-in_err-told-clause-cause
returns-in_err-told-clause-cause g c =
    let was = c.loop-one.invariant in
    let at : c.len.result ≡ length c.loop-one.all.items = search rules in
    let below : c.len.result < length c.loop-one.folders.items = turn_below _ _ was.done was.todo c.loop-one.folders.items c.len.result _ _ c.in-Some.one was.all was.same was.opened c.in-Some.ensures.steps.0 (at ∙ was.count) in
    carried _ c.from_residual.result c.in_err-told.field-0.0 (search rules)
    (same_read _ _ _ c.in_err-told.field-0.0 was.same
    (set_cause _ c.loop-one.folders.items c.len.result c.index_mut-here.result.now _ c.in_err-told.field-0.0 below c.index_mut-here.ensures.value c.in_err-told.ensures.cause))

pub loop-one-preserved : goal.loop-one-preserved
loop-one-preserved g c =
    let was = c.loop-one.invariant in
    let at : c.len.result ≡ length c.loop-one.all.items = search rules in
    let now = turn _ _ was.done was.todo c.loop-one.folders.items c.len.result _ _ c.in-Some.one was.all was.same was.opened c.in-Some.ensures.steps.0 (at ∙ was.count) c.index_mut-here.result.now c.index_mut-here.ensures.value in
    record {
      can = search rules;
      ends = search rules;
      len = let fewer = c.in-Some.ensures.steps.1 in let before = was.len in let items = ap length c.in-Some.ensures.steps.0 in omega arith;
      done = was.done ++ now.next ∷ [];
      todo = now.more;
      all = now.is;
      count = ap length c.in_ok-push.ensures.items ∙ counted_more c.loop-one.all.items was.done c.in_ok-told.field-0 now.next was.count;
      opened = now.others;
      told = cycle_more c.args.begun.now.start.now.detail (first_of c.args.begun.now.start.now c.args.begun.now.wanted.now) was.done now.next c.loop-one.all.items _ c.in_ok-told.field-0 c.loop-one.keeper
          was.told was.state (told_before c.args.begun.now.start.now.detail _ _ _ _ now.same c.in_ok-told.ensures.told) c.in_ok-push.ensures.items;
      state = state_more (first_of c.args.begun.now.start.now c.args.begun.now.wanted.now) c.loop-one.all.items _ c.in_ok-told.field-0 _ c.in_ok-told.ensures.state c.in_ok-push.ensures.items;
      same = same_then _ _ _ was.same (set_same _ c.loop-one.folders.items c.len.result c.index_mut-here.result.now _ c.index_mut-here.ensures.value c.in_ok-told.ensures.same);
    }

pub returns-clause-told : goal.returns-clause-told
returns-clause-told g c =
    let was = c.loop-one.invariant in
    let none = none_left (into_iter_items c.loop-one.one-iterator) (sym was.len ∙ c.in-None.ensures.steps.0) in
    subst (λ ms. AreToldOn c.args.begun.now.start.now.detail ms (first_of c.args.begun.now.start.now c.args.begun.now.wanted.now) c.loop-one.all.items) (all_done _ was.done was.todo _ was.all was.opened none) was.told
