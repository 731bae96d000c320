use Rattle.std.proofs.Common.{◌∙◌, ap, inr, refl, rules}
use Rattle.std.specs.Bool.{⊤}
use Rattle.update.specs.Opened.{paths_from}
use Rattle.update.specs.Runs.{state_text}
use Rattle.update.proofs.Ending.{all_begun, begun_into, placed_in, same_placing, still_stored, stored, stored_into, wrote, wrote_err}
use Rattle.update.proofs.Storing.{after_failure}
use Rattle.update.proofs.copying.Host+S+Folders+M+T+W.verify_into_from.Goals as goal

pub returns-in_err-stored-clause-order : goal.returns-in_err-stored-clause-order
returns-in_err-stored-clause-order g c =
    after_failure c.from_residual-in_err-stored.result
    (inr (begun_into _ _ c.args.start.now c.args.wanted.now c.in_ok-followed.followed c.in_ok-copied.copied.known c.in_ok-told.told _ c.trusted.result.now
    c.in_ok-followed.ensures.followed c.in_ok-followed.ensures.same.0 c.in_ok-copied.ensures.measured c.in_ok-told.ensures.told c.trusted.ensures.value (still_stored (g.S.System.keeps c.keep_state.new.system) (g.S.System.keeps c.store_copies.new.system) c.args.start.now.state.now (state_text c.trusted.result.now) c.in_err-stored.ensures.spared c.in_ok-keep_state.ensures.kept)
    _ (placed_in (g.D.Destination.site c.args.to.now) (g.S.System.obstacles c.args.self.now.system) c.args.start.now.state.now) (same_placing _ _ _ _ _ c.in_ok-copied.ensures.same_site c.in_ok-keep_state.ensures.same_obstacles) refl
    g.D.Temporary.Temporary.wrote c.paths-paths.result.now c.in_ok-copied.copied.copies.items c.as_slice-copies.result.now c.verdicts-verdicts.result.now (g.S.System.keeps c.keep_state.new.system) (g.S.System.keeps c.args.self.now.system) _
    (c.paths-paths.ensures ∙ ap (paths_from c.args.wanted.now) c.as_slice.ensures.value) c.as_slice-copies.ensures.value c.verdicts-verdicts.ensures.value (λ place isnt bytes. c.in_ok-keep_state.ensures.others place bytes isnt) c.in_ok-copied.ensures.copies
    c.in_err-stored.ensures.begun))

pub returns-clause-verified : goal.returns-clause-verified
returns-clause-verified g c =
    stored_into _ _ c.args.start.now c.args.wanted.now c.in_ok-followed.followed c.in_ok-copied.copied.known c.in_ok-told.told _ c.trusted.result.now
    c.in_ok-followed.ensures.followed c.in_ok-followed.ensures.same.0 c.in_ok-copied.ensures.measured c.in_ok-told.ensures.told c.trusted.ensures.value (still_stored (g.S.System.keeps c.keep_state.new.system) (g.S.System.keeps c.store_copies.new.system) c.args.start.now.state.now (state_text c.trusted.result.now) c.in_ok-stored.ensures.spared c.in_ok-keep_state.ensures.kept)
    _ (placed_in (g.D.Destination.site c.args.to.now) (g.S.System.obstacles c.args.self.now.system) c.args.start.now.state.now) (same_placing _ _ _ _ _ c.in_ok-copied.ensures.same_site c.in_ok-keep_state.ensures.same_obstacles) refl
    g.D.Temporary.Temporary.wrote c.paths-paths.result.now c.in_ok-copied.copied.copies.items c.as_slice-copies.result.now c.verdicts-verdicts.result.now (g.S.System.keeps c.keep_state.new.system) (g.S.System.keeps c.args.self.now.system) _
    (c.paths-paths.ensures ∙ ap (paths_from c.args.wanted.now) c.as_slice.ensures.value) c.as_slice-copies.ensures.value c.verdicts-verdicts.ensures.value (λ place isnt bytes. c.in_ok-keep_state.ensures.others place bytes isnt) c.in_ok-copied.ensures.copies
    _ _ c.tell_copied.result c.in_ok-stored.stored.items _ c.as_slice-3.ensures.value c.in_ok-stored.ensures.by_position c.in_ok-stored.ensures.stored c.tell_copied.ensures.printed

pub returns-in_err-flush-clause-order : goal.returns-in_err-flush-clause-order
returns-in_err-flush-clause-order g c =
    after_failure c.from_residual-in_err-flush.result
    (inr (all_begun _ _ c.args.start.now c.args.wanted.now c.in_ok-followed.followed c.in_ok-copied.copied.known c.in_ok-told.told _ c.trusted.result.now
    c.in_ok-followed.ensures.followed c.in_ok-followed.ensures.same.0 c.in_ok-copied.ensures.measured c.in_ok-told.ensures.told c.trusted.ensures.value (still_stored (g.S.System.keeps c.keep_state.new.system) (g.S.System.keeps c.store_copies.new.system) c.args.start.now.state.now (state_text c.trusted.result.now) c.in_ok-stored.ensures.spared c.in_ok-keep_state.ensures.kept)
    _ (placed_in (g.D.Destination.site c.args.to.now) (g.S.System.obstacles c.args.self.now.system) c.args.start.now.state.now) (same_placing _ _ _ _ _ c.in_ok-copied.ensures.same_site c.in_ok-keep_state.ensures.same_obstacles) refl
    g.D.Temporary.Temporary.wrote c.paths-paths.result.now c.in_ok-copied.copied.copies.items c.as_slice-copies.result.now c.verdicts-verdicts.result.now (g.S.System.keeps c.keep_state.new.system) (g.S.System.keeps c.args.self.now.system) _
    (c.paths-paths.ensures ∙ ap (paths_from c.args.wanted.now) c.as_slice.ensures.value) c.as_slice-copies.ensures.value c.verdicts-verdicts.ensures.value (λ place isnt bytes. c.in_ok-keep_state.ensures.others place bytes isnt) c.in_ok-copied.ensures.copies
    c.in_ok-stored.stored.items c.in_ok-stored.ensures.stored))

pub returns-clause-order : goal.returns-clause-order
returns-clause-order g c =
    after_failure c.tell_copied.result
    (inr (all_begun _ _ c.args.start.now c.args.wanted.now c.in_ok-followed.followed c.in_ok-copied.copied.known c.in_ok-told.told _ c.trusted.result.now
    c.in_ok-followed.ensures.followed c.in_ok-followed.ensures.same.0 c.in_ok-copied.ensures.measured c.in_ok-told.ensures.told c.trusted.ensures.value (still_stored (g.S.System.keeps c.keep_state.new.system) (g.S.System.keeps c.store_copies.new.system) c.args.start.now.state.now (state_text c.trusted.result.now) c.in_ok-stored.ensures.spared c.in_ok-keep_state.ensures.kept)
    _ (placed_in (g.D.Destination.site c.args.to.now) (g.S.System.obstacles c.args.self.now.system) c.args.start.now.state.now) (same_placing _ _ _ _ _ c.in_ok-copied.ensures.same_site c.in_ok-keep_state.ensures.same_obstacles) refl
    g.D.Temporary.Temporary.wrote c.paths-paths.result.now c.in_ok-copied.copied.copies.items c.as_slice-copies.result.now c.verdicts-verdicts.result.now (g.S.System.keeps c.keep_state.new.system) (g.S.System.keeps c.args.self.now.system) _
    (c.paths-paths.ensures ∙ ap (paths_from c.args.wanted.now) c.as_slice.ensures.value) c.as_slice-copies.ensures.value c.verdicts-verdicts.ensures.value (λ place isnt bytes. c.in_ok-keep_state.ensures.others place bytes isnt) c.in_ok-copied.ensures.copies
    c.in_ok-stored.stored.items c.in_ok-stored.ensures.stored))

pub returns-in_err-stored-clause-cause : goal.returns-in_err-stored-clause-cause
returns-in_err-stored-clause-cause g c =
    wrote_err _ c.from_residual-in_err-stored.result c.in_err-stored.field-0.0 (search rules) c.in_err-stored.ensures.refused tt (inr (inr
    (stored _ _ c.args.start.now c.args.wanted.now c.in_ok-followed.followed c.in_ok-copied.copied.known c.in_ok-told.told _ c.trusted.result.now
    c.in_ok-followed.ensures.followed c.in_ok-followed.ensures.same.0 c.in_ok-copied.ensures.measured c.in_ok-told.ensures.told c.trusted.ensures.value
    (still_stored (g.S.System.keeps c.keep_state.new.system) (g.S.System.keeps c.store_copies.new.system) c.args.start.now.state.now (state_text c.trusted.result.now) c.in_err-stored.ensures.spared c.in_ok-keep_state.ensures.kept) (λ _ _ _ _. ⊤) tt)))

pub returns-in_err-flush-clause-cause : goal.returns-in_err-flush-clause-cause
returns-in_err-flush-clause-cause g c =
    wrote_err _ c.from_residual-in_err-flush.result c.in_err-flush.field-0.0 (search rules) c.in_err-flush.ensures.refused tt (inr (inr
    (stored _ _ c.args.start.now c.args.wanted.now c.in_ok-followed.followed c.in_ok-copied.copied.known c.in_ok-told.told _ c.trusted.result.now
    c.in_ok-followed.ensures.followed c.in_ok-followed.ensures.same.0 c.in_ok-copied.ensures.measured c.in_ok-told.ensures.told c.trusted.ensures.value
    (still_stored (g.S.System.keeps c.keep_state.new.system) (g.S.System.keeps c.store_copies.new.system) c.args.start.now.state.now (state_text c.trusted.result.now) c.in_ok-stored.ensures.spared c.in_ok-keep_state.ensures.kept) (λ _ _ _ _. ⊤) tt)))

pub returns-clause-cause : goal.returns-clause-cause
returns-clause-cause g c =
    wrote _ c.tell_copied.result c.tell_copied.ensures.refused tt (inr (inr
    (stored _ _ c.args.start.now c.args.wanted.now c.in_ok-followed.followed c.in_ok-copied.copied.known c.in_ok-told.told _ c.trusted.result.now
    c.in_ok-followed.ensures.followed c.in_ok-followed.ensures.same.0 c.in_ok-copied.ensures.measured c.in_ok-told.ensures.told c.trusted.ensures.value
    (still_stored (g.S.System.keeps c.keep_state.new.system) (g.S.System.keeps c.store_copies.new.system) c.args.start.now.state.now (state_text c.trusted.result.now) c.in_ok-stored.ensures.spared c.in_ok-keep_state.ensures.kept) (λ _ _ _ _. ⊤) tt)))
