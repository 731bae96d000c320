use Rattle.std.proofs.Common.{◌∙◌, ◌≡◌, ◌+◌, ◌∷◌, ap, drop, fold, subst, sym, true}
use Rattle.std.proofs.lemmas.List.{drop_more}
use Rattle.cycle.specs.Workflow.{is_ascending, with_role}
use Rattle.cycle.proofs.Gathered.{with_role-ascends}
use Rattle.cycle.proofs.roles.add_roles.Goals as goal

pub loop-role-preserved : goal.loop-role-preserved
loop-role-preserved c =
    let all = c.loop-role.all.items in
    let left = drop_more _ _ c.role-item.result c.loop-role-test.true ∙ ap (λ x. x ∷ drop (c.loop-role.role-index + 1) c.args.roles.now) (sym c.role-item.is) in
    record {
      ascends = subst (λ all. is_ascending all ≡ true) (sym c.in_ok-add_role.ensures) (with_role-ascends all c.role-item.result c.loop-role.invariant.ascends);
      so_far = ap (λ n. fold with_role n (drop (c.loop-role.role-index + 1) c.args.roles.now)) c.in_ok-add_role.ensures ∙ sym (ap (fold with_role all) left) ∙ c.loop-role.invariant.so_far;
    }
