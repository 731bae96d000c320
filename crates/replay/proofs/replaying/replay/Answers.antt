use Rattle.std.proofs.Common.{◌≡◌, ◌∙◌, IfOk, inl, inr, map, rules, string_bytes, subst, true}
use Rattle.std.specs.Bool.{⊤}
use Rattle.replay.specs.Cycles.{ArePrinted}
use Rattle.update.specs.Runs.{state_text}
use Rattle.update.proofs.Beginning.{begins, begins_ok}
use Rattle.replay.proofs.Causing.{read_err, same_read}
use Rattle.replay.proofs.Cycling.{all_before, printed_all, replayed, replayed_printed}
use Rattle.replay.proofs.Places.{all_opened_after}
use Rattle.update.proofs.Ending.{ok_if, wrote}
use Rattle.update.proofs.Storing.{after_failure}
use Rattle.replay.proofs.replaying.replay.Goals as goal

pub all_told-requires-clause-opened : goal.all_told-requires-clause-opened
all_told-requires-clause-opened g c κs within = all_opened_after _ _ c.in_ok-opened.opened.items c.in_ok-opened.ensures.same c.in_ok-opened.ensures.opened

pub returns-in_err-all-clause-cause : goal.returns-in_err-all-clause-cause
returns-in_err-all-clause-cause g c =
    let f = c.in_err-all.field-0.0 in
    read_err _ c.from_residual-in_err-all.result f _ _ (search rules) (same_read _ _ _ f c.in_ok-opened.ensures.same c.in_err-all.ensures.cause)
    (λ failed. inr (begins c.args.cycles.now.settings _ c.in_ok-start.start c.in_ok-start.ensures.start _ failed)) (inl tt)

pub returns-clause-replayed : goal.returns-clause-replayed
returns-clause-replayed g c =
    let old = g.W.Write.contents c.args.host.now.out in
    let new = g.W.Write.contents c.tell_cycles.new.out in
    let s = c.in_ok-start.start in
    begins_ok c.args.cycles.now.settings _ s c.in_ok-start.ensures.start _ c.tell_cycles.result
    (replayed_printed _ s c.as_slice.result.now c.args.cycles.now.wanted.items (g.S.System.keeps c.keep_state.new.system s.state.now) c.in_ok-all.all.items c.as_slice.ensures.value
    (all_before _ _ _ _ c.in_ok-all.all.items c.in_ok-opened.ensures.same c.in_ok-all.ensures.told)
    (subst (λ t. g.S.System.keeps c.keep_state.new.system s.state.now (state_text t) ≡ true) (c.trusted.ensures.value ∙ c.in_ok-all.ensures.state) c.in_ok-keep_state.ensures.kept)
    old new c.tell_cycles.result
    (subst (λ ts. IfOk c.tell_cycles.result (λ status. ArePrinted ts (map string_bytes c.as_slice.result.now) status old new)) c.as_slice-2.ensures.value
    (printed_all c.as_slice-2.result.now (map string_bytes c.as_slice.result.now) old new c.tell_cycles.result c.tell_cycles.ensures.written c.tell_cycles.ensures.status)))

pub returns-clause-order : goal.returns-clause-order
returns-clause-order g c =
    let s = c.in_ok-start.start in
    after_failure c.tell_cycles.result
    (inr (begins c.args.cycles.now.settings _ s c.in_ok-start.ensures.start _
    (replayed _ s c.as_slice.result.now c.args.cycles.now.wanted.items (g.S.System.keeps c.keep_state.new.system s.state.now) c.in_ok-all.all.items c.as_slice.ensures.value
    (all_before _ _ _ _ c.in_ok-all.all.items c.in_ok-opened.ensures.same c.in_ok-all.ensures.told)
    (subst (λ t. g.S.System.keeps c.keep_state.new.system s.state.now (state_text t) ≡ true) (c.trusted.ensures.value ∙ c.in_ok-all.ensures.state) c.in_ok-keep_state.ensures.kept)
    (λ _. ⊤) tt)))

pub returns-clause-locked : goal.returns-clause-locked
returns-clause-locked g c = ok_if c.tell_cycles.result (λ needed. c.in_ok-keep_state.ensures.locked _ (c.in_ok-start.ensures.locked needed))

pub returns-clause-cause : goal.returns-clause-cause
returns-clause-cause g c =
    let s = c.in_ok-start.start in
    wrote _ c.tell_cycles.result c.tell_cycles.ensures.refused (inl tt)
    (inr (begins c.args.cycles.now.settings _ s c.in_ok-start.ensures.start _ (inr
    (replayed _ s c.as_slice.result.now c.args.cycles.now.wanted.items (g.S.System.keeps c.keep_state.new.system s.state.now) c.in_ok-all.all.items c.as_slice.ensures.value
    (all_before _ _ _ _ c.in_ok-all.all.items c.in_ok-opened.ensures.same c.in_ok-all.ensures.told)
    (subst (λ t. g.S.System.keeps c.keep_state.new.system s.state.now (state_text t) ≡ true) (c.trusted.ensures.value ∙ c.in_ok-all.ensures.state) c.in_ok-keep_state.ensures.kept)
    (λ _. ⊤) tt))))
