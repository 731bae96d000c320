use Rattle.std.proofs.Common.{[], ◌∙◌, ap, map, string_bytes, subst, sym}
use Rattle.cycle.specs.Workflow.{request}
use Rattle.lookups.specs.Lookups.{request_of}
use Rattle.paths.specs.Names.{ArePathsOf}
use Rattle.update.specs.Opened.{AreListed}
use Rattle.update.specs.declared.start.Opened.{Opened}
use Rattle.update.proofs.Ending.{listed_by}
use Rattle.update.proofs.following.listed_paths.Goals as goal

pub returns-in_ok-paths_of_names-in-Every-clause-paths : goal.returns-in_ok-paths_of_names-in-Every-clause-paths
returns-in_ok-paths_of_names-in-Every-clause-paths g c =
    let o : Opened = record { metadata = c.follow.new.self; names = c.args.begun.now.opened.names } in
    let s = c.args.start.now in
    let listed = c.in_ok-paths_of_names-in-Every.field-0.items in
    subst (λ w. AreListed (g.F.Folder.gives c.args.folder.now) s w o listed) (sym c.in-Every.is)
    (listed_by (g.F.Folder.gives c.args.folder.now) s o c.in_ok-course-in-Every.course (request_of c.args.begun.now.keeper c.asked_of-asked.result) listed
    (c.asked_of-asked.ensures.request c.args.begun.now.keeper ∙ ap (λ t. request t s.moment [] s.limits.roles) c.requires.state)
    c.in_ok-course-in-Every.ensures.settled
    (subst (λ b. ArePathsOf b (map string_bytes o.names.items) (map string_bytes listed)) c.has_consistent_names-is_consistent.ensures.value
    (subst (λ l. ArePathsOf c.has_consistent_names-is_consistent.result (map string_bytes l) (map string_bytes listed)) c.as_slice-names.ensures.value c.in_ok-paths_of_names-in-Every.ensures.paths)))
