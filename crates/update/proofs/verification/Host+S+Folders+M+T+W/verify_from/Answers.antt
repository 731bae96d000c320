use Rattle.std.proofs.Common.{◌∙◌, ap, inr}
use Rattle.std.specs.Bool.{⊤}
use Rattle.update.specs.Opened.{paths_from}
use Rattle.update.proofs.Ending.{stored, stored_printed, wrote}
use Rattle.update.proofs.Storing.{after_failure}
use Rattle.update.proofs.verification.Host+S+Folders+M+T+W.verify_from.Goals as goal

pub returns-clause-verified : goal.returns-clause-verified
returns-clause-verified g c =
    stored_printed _ _ c.args.start.now c.args.wanted.now c.in_ok-followed.followed c.in_ok-known.known c.in_ok-told.told _ c.trusted.result.now
    c.in_ok-followed.ensures.followed c.in_ok-followed.ensures.same.0 c.in_ok-known.ensures.measured c.in_ok-told.ensures.told c.trusted.ensures.value c.in_ok-keep_state.ensures.kept
    _ _ c.paths-paths.result.now c.tell_outcome.result (c.paths-paths.ensures ∙ ap (paths_from c.args.wanted.now) c.as_slice.ensures.value) c.tell_outcome.ensures.printed

pub returns-clause-order : goal.returns-clause-order
returns-clause-order g c =
    after_failure c.tell_outcome.result
    (inr (stored _ _ c.args.start.now c.args.wanted.now c.in_ok-followed.followed c.in_ok-known.known c.in_ok-told.told _ c.trusted.result.now
    c.in_ok-followed.ensures.followed c.in_ok-followed.ensures.same.0 c.in_ok-known.ensures.measured c.in_ok-told.ensures.told c.trusted.ensures.value c.in_ok-keep_state.ensures.kept (λ _ _ _ _. ⊤) tt))

pub returns-clause-cause : goal.returns-clause-cause
returns-clause-cause g c =
    wrote _ c.tell_outcome.result c.tell_outcome.ensures.refused tt
    (inr (stored _ _ c.args.start.now c.args.wanted.now c.in_ok-followed.followed c.in_ok-known.known c.in_ok-told.told _ c.trusted.result.now
    c.in_ok-followed.ensures.followed c.in_ok-followed.ensures.same.0 c.in_ok-known.ensures.measured c.in_ok-told.ensures.told c.trusted.ensures.value c.in_ok-keep_state.ensures.kept (λ _ _ _ _. ⊤) tt))
