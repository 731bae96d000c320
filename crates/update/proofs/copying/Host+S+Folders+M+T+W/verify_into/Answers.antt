use Rattle.std.proofs.Common.{◌∙◌, ◌∷◌, [], List, inl, inr, ⊎_elim}
use Rattle.update.proofs.Beginning.{begins}
use Rattle.update.proofs.Ending.{begun_as, ok_if, then_err}
use Rattle.update.specs.World.{Mirror}
use Rattle.update.proofs.copying.Host+S+Folders+M+T+W.verify_into.Goals as goal

pub returns-clause-locked : goal.returns-clause-locked
returns-clause-locked g c = ok_if c.verify_into_from-done.result (λ needed. c.verify_into_from-done.ensures.locked _ (c.in_ok-start.ensures.locked needed))

pub returns-clause-order : goal.returns-clause-order
returns-clause-order g c =
    let start = c.in_ok-start.start in
    let terms = c.args.terms.now in
    let ended = c.verify_into_from-done.new.self.system in
    let folders = c.args.self.now.folders in
    let mirrors : List Mirror = record { metadata = g.M.Folder.gives folders.metadata; targets = g.T.Folder.gives folders.targets } ∷ [] in
    then_err c.verify_into_from-done.result (⊎_elim
    (λ untouched. inl (untouched.0 ∙ c.in_ok-start.ensures.kept, untouched.1))
    (λ begun. inr (begins terms.settings _ start c.in_ok-start.ensures.start _
    (begun_as mirrors start terms.wanted (g.S.System.keeps ended start.state.now) (g.D.Destination.site c.args.to.now)
    (g.S.System.obstacles c.args.self.now.system) (g.S.System.obstacles c.begin.new.system) terms.settings.out.now
    (g.S.System.keeps c.begin.new.system) (g.S.System.keeps c.args.self.now.system) (g.S.System.keeps ended)
    c.in_ok-start.ensures.start.place c.in_ok-start.ensures.same_obstacles c.in_ok-start.ensures.kept begun))))
    c.verify_into_from-done.ensures.order
