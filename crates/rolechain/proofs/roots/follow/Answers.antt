use Rattle.std.proofs.Common.{◌≡◌, Ok, ap, sym, subst, ◌∙◌, arith}
use Rattle.std.proofs.lemmas.Result.{err_from_is_err_and}
use Rattle.meta.specs.Content.{Answers}
use Rattle.examine.specs.Checks.{file_in}
use Rattle.rolechain.specs.Advance.{successor}
use Rattle.rolechain.specs.declared.end.Step.TheVariants as step
use Rattle.rolechain.proofs.Chain.{onward, begins, more, refused, ends, full}
use Rattle.rolechain.proofs.InOrder.{gives, stops_at}
use Rattle.rolechain.proofs.roots.follow.Goals as goal

pub loop-done-init : goal.loop-done-init
loop-done-init g c = begins _ _ 256 _

pub returns-in_err-next : goal.returns-in_err-next
returns-in_err-next g c =
    let files = file_in c.args.context.now.files.now in
    let now = c.args.context.now.moment in
    let s = c.loop-done.state in
    let root : c.reading.result.now ≡ s.root.reading = c.reading.ensures.value ∙ ap (λ p. p.reading) c.root.ensures.value in
    let answer : Answers (successor files s.root.reading) c.successor.result (λ p. p) = subst (λ r. Answers (successor files r) c.successor.result (λ p. p)) root c.successor.ensures in
    let p = err_from_is_err_and c.from_residual.result c.from_residual.ensures.1 in
    rw (p.1, p.2) (refused files now 256 _ _ s _ (omega (arith, c.loop-done-test.true))
    (λ m. stops_at step.Root s (successor files s.root.reading) c.successor.result _ (onward files now m s) answer (sym c.or_halt.ensures ∙ c.in_err-next.was)) c.loop-done.invariant)

pub returns-in-None : goal.returns-in-None
returns-in-None g c =
    let files = file_in c.args.context.now.files.now in
    let now = c.args.context.now.moment in
    let s = c.loop-done.state in
    let root : c.reading.result.now ≡ s.root.reading = c.reading.ensures.value ∙ ap (λ p. p.reading) c.root.ensures.value in
    let answer : Answers (successor files s.root.reading) c.successor.result (λ p. p) = subst (λ r. Answers (successor files r) c.successor.result (λ p. p)) root c.successor.ensures in
    let none = gives step.Root _ _ _ answer (sym c.or_halt.ensures ∙ c.in_ok-next.was ∙ ap Ok c.in-None.is) in
    ends files now 256 _ _ s (omega (arith, c.loop-done-test.true)) none c.loop-done.invariant

pub loop-done-preserved : goal.loop-done-preserved
loop-done-preserved g c =
    let files = file_in c.args.context.now.files.now in
    let now = c.args.context.now.moment in
    let s = c.loop-done.state in
    let root : c.reading.result.now ≡ s.root.reading = c.reading.ensures.value ∙ ap (λ p. p.reading) c.root.ensures.value in
    let answer : Answers (successor files s.root.reading) c.successor.result (λ p. p) = subst (λ r. Answers (successor files r) c.successor.result (λ p. p)) root c.successor.ensures in
    let found = gives step.Root _ _ _ answer (sym c.or_halt.ensures ∙ c.in_ok-next.was ∙ ap Ok c.in-Some.is) in
    rw c.trust_root.ensures (more files now 256 _ _ s c.in-Some.next (omega (arith, c.loop-done-test.true)) found c.loop-done.invariant)

pub returns : goal.returns
returns g c = full _ _ 256 _ _ _ (omega (arith, c.loop-done.invariant.counted)) c.loop-done.invariant
