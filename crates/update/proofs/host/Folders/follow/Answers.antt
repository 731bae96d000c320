use Rattle.std.proofs.Common.{◌≡◌, ◌∙◌, ap, map, refl, string_bytes, subst, sym, true}
use Rattle.cycle.specs.Workflow.{request}
use Rattle.lookups.specs.Lookups.{request_of}
use Rattle.lookups.proofs.Reading.{part_still}
use Rattle.update.specs.Opened.{paths_from}
use Rattle.update.proofs.Ending.{followed}
use Rattle.update.proofs.host.Folders.follow.Goals as goal

pub follow-requires-clause-part : goal.follow-requires-clause-part
follow-requires-clause-part g c κs within = part_still _ _ _ c.in_ok-listed.ensures.same c.in_ok-listed.ensures.part

pub returns-clause-followed : goal.returns-clause-followed
returns-clause-followed g c =
    let s = c.args.start.now in
    followed _ (g.M.Folder.gives c.open.new.self.metadata) (g.M.Folder.gives c.listed_paths.new.folder) s c.args.wanted.now c.listed_paths.new.begun.opened c.follow.new.self _
    (request_of c.listed_paths.new.begun.keeper c.asked_of-asked.result) c.paths.result.now
    c.in_ok-opened.ensures.same.0.metadata c.in_ok-listed.ensures.same
    (subst (λ l. (g.T.Folder.gives c.args.self.now.targets).lists (map string_bytes l.items) ≡ true) (sym c.in_ok-listed.ensures.names) c.in_ok-opened.ensures.names)
    refl
    (c.paths.ensures ∙ ap (paths_from c.args.wanted.now) c.as_slice.ensures.value)
    (c.asked_of-asked.ensures.request c.listed_paths.new.begun.keeper
    ∙ ap (λ t. request t s.moment c.paths.result.now s.limits.roles) (c.in_ok-listed.ensures.state ∙ c.in_ok-keeper.ensures.state ∙ c.in_ok-copy.ensures.equal))
    c.in_ok-course.ensures.part c.in_ok-course.ensures.grows c.in_ok-course.ensures.settled c.in_ok-listed.ensures.paths
    c.in_ok-stop.ensures.lines
