use Rattle.std.proofs.Common.{◌∙◌, refl, subst, sym}
use Rattle.update.specs.Copies.{IsFlag, is_blocked, is_free}
use Rattle.update.specs.Stored.{placing_of}
use Rattle.update.proofs.Copied.{decided_again, decided_refused, decided_stored}
use Rattle.update.proofs.installing.store_copy.Goals as goal

pub returns-then-has_path-clause-decided : goal.returns-then-has_path-clause-decided
returns-then-has_path-clause-decided g c = λ done is.
    let p = placing_of g.D.Destination.site c.args.places.now (g.S.System.obstacles c.args.system.now) in
    decided_again (is_free p.site.path p.state) (is_blocked p)
    c.args.decided.now done c.args.path.now (sym c.has_path.ensures ∙ c.if-has_path.true) is

pub returns-then-branch-clause-decided : goal.returns-then-branch-clause-decided
returns-then-branch-clause-decided g c = λ done is.
    let p = placing_of g.D.Destination.site c.args.places.now (g.S.System.obstacles c.args.system.now) in
    let free = is_free p.site.path p.state in
    let blocked = is_blocked p in
    decided_stored free blocked c.args.decided.now (record { stored = c.add_path.new.set; refused = c.args.decided.now.refused }) done c.args.path.now c.in_ok-add_path.ensures refl
    (subst (IsFlag free blocked c.args.path.now) c.if-branch.true c.in_ok-install.ensures.decided) is

pub returns-clause-decided : goal.returns-clause-decided
returns-clause-decided g c = λ done is.
    let p = placing_of g.D.Destination.site c.args.places.now (g.S.System.obstacles c.args.system.now) in
    let free = is_free p.site.path p.state in
    let blocked = is_blocked p in
    decided_refused free blocked c.args.decided.now (record { stored = c.add_path.new.set; refused = c.args.decided.now.refused })
    (record { stored = c.drop_path.new.set; refused = c.add_path-2.new.set }) done c.args.path.now (sym c.has_path.ensures ∙ c.if-has_path.false) c.in_ok-add_path.ensures
    c.drop_path.ensures c.in_ok-add_path-2.ensures (subst (IsFlag free blocked c.args.path.now) c.if-branch.false c.in_ok-install.ensures.decided) is
