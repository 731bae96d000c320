use Rattle.std.proofs.Common.{◌≡◌, ◌∙◌, ◌&&◌, ◌+◌, List, ℕ, Some, ap, arith, length, map, string_bytes, subst, sym}
use Rattle.std.proofs.lemmas.List.{length-map}
use Rattle.std.specs.List.{slice_get}
use Rattle.update.specs.Copies.{is_good_at, may_have_copy}
use Rattle.update.specs.Stored.{lent_texts}
use Rattle.update.proofs.Copied.{path_at}
use Rattle.update.proofs.Placeable.{AreFirstCandidates, all_candidates, one_candidate, same_places}
use Rattle.update.proofs.placing.candidates.Goals as goal

pub loop-i-preserved : goal.loop-i-preserved
loop-i-preserved c =
    let w : List (List ℕ) = map string_bytes c.args.wanted.now in
    let v = c.args.verdicts.now in
    let p : List ℕ = string_bytes c.index-wanted-i.result in
    let at : slice_get w c.loop-i.i ≡ Some p = path_at c.args.wanted.now c.loop-i.i c.index-wanted-i.result c.loop-i-test.true c.index-wanted-i.is in
    subst (AreFirstCandidates w v (c.loop-i.i + 1)) (sym c.in_ok-push.ensures.items)
    (one_candidate w v c.loop-i.i c.loop-i.flags.items p c.in_ok-is_candidate.field-0 at
    (c.in_ok-is_candidate.ensures.test ∙ ap (λ b. b && may_have_copy (lent_texts c.as_slice.result.now) c.as_str.result.now) c.is_good_at-is_good.ensures
    ∙ ap (λ l. is_good_at v c.loop-i.i && may_have_copy (lent_texts l) c.as_str.result.now) c.as_slice.ensures.value
    ∙ ap (λ q. is_good_at v c.loop-i.i && may_have_copy (lent_texts c.in_ok-paths.paths.items) q) c.as_str.ensures.value
    ∙ ap (λ b. is_good_at v c.loop-i.i && b) (same_places _ _ p c.in_ok-paths.ensures.paths))
    c.loop-i.invariant)

pub returns : goal.returns
returns c =
    let end : length c.args.wanted.now ≡ c.loop-i.i = omega arith in
    record { candidates = all_candidates (map string_bytes c.args.wanted.now) c.args.verdicts.now c.loop-i.i c.loop-i.flags.items (length-map c.args.wanted.now string_bytes ∙ end) c.loop-i.invariant }
