use Rattle.std.proofs.Common.{◌≡◌, true, ap, sym, ◌∙◌, subst}
use Rattle.examine.specs.Checks.{file_in}
use Rattle.rolechain.specs.Advance as spec
use Rattle.rolechain.specs.Advance.{IsLongestChain, IsDropped, is_early, is_ready, advanced_of}
use Rattle.rolechain.specs.declared.end.End.TheVariants as end
use Rattle.rolechain.proofs.InOrder.{ends}
use Rattle.rolechain.proofs.Ready.{advanced-ready}
use Rattle.rolechain.proofs.Longest.{advanced-longest}
use Rattle.rolechain.proofs.Dropped.{advanced-early}
use Rattle.rolechain.proofs.workflow.advance.Goals as goal

pub returns-clause-ready : goal.returns-clause-ready
returns-clause-ready g c =
    let files = file_in c.args.repo.now.metadata in
    let now = c.args.now in
    let s = c.args.trusted.now in
    let same : advanced_of (c.steps.new.state, c.in_ok-end.end) ≡ spec.advanced files now s =
    ends _ _ _ _ _ c.in_ok-end.was c.steps.ensures c.end_of.ensures ∙ ap (spec.advanced files now) c.in_ok-state.ensures.equal in
    subst (λ a. a.end ≡ end.Ready → is_ready a.state ≡ true) (sym same) (advanced-ready files now s)

pub returns-clause-roots : goal.returns-clause-roots
returns-clause-roots g c =
    let files = file_in c.args.repo.now.metadata in
    let now = c.args.now in
    let s = c.args.trusted.now in
    let same : advanced_of (c.steps.new.state, c.in_ok-end.end) ≡ spec.advanced files now s =
    ends _ _ _ _ _ c.in_ok-end.was c.steps.ensures c.end_of.ensures ∙ ap (spec.advanced files now) c.in_ok-state.ensures.equal in
    subst (λ a. IsLongestChain files spec.most_roots s.root a.state.root) (sym same) (advanced-longest files now s)

pub returns-clause-drop : goal.returns-clause-drop
returns-clause-drop g c =
    let files = file_in c.args.repo.now.metadata in
    let now = c.args.now in
    let s = c.args.trusted.now in
    let same : advanced_of (c.steps.new.state, c.in_ok-end.end) ≡ spec.advanced files now s =
    ends _ _ _ _ _ c.in_ok-end.was c.steps.ensures c.end_of.ensures ∙ ap (spec.advanced files now) c.in_ok-state.ensures.equal in
    subst (λ a. is_early a.end ≡ true → IsDropped files s a.state) (sym same) (advanced-early files now s)
