use Rattle.std.proofs.Common.{◌∙◌, ap, map, string_bytes}
use Rattle.lookups.specs.Lookups.{request_of}
use Rattle.lookups.proofs.Reading.{part_before}
use Rattle.needs.specs.Needs.{is_in, needs}
use Rattle.update.specs.Runs.{State}
use Rattle.update.proofs.Listing.{absent_on}
use Rattle.update.proofs.host.Folders.absent.Goals as goal

pub returns-clause-needs : goal.returns-clause-needs
returns-clause-needs g c =
    absent_on (record { metadata = g.M.Folder.gives c.args.self.now.metadata; targets = g.T.Folder.gives c.args.self.now.targets }) (request_of c.args.keeper.now c.args.asked.now)
    c.follow.new.self c.in_ok-course.course c.in_ok-targets.targets (map string_bytes c.in_ok-opened.opened.names.items) c.in_ok-needs.field-0.items
    (part_before _ _ _ c.in_ok-opened.ensures.same.0.metadata c.in_ok-course.ensures.part) c.in_ok-course.ensures.settled c.in_ok-opened.ensures.names c.in_ok-targets.ensures.names
    (c.in_ok-needs.ensures.needs
    ∙ ap (λ (t : State). needs t.root.reading c.in_ok-course.course (is_in c.follow.new.self.repo.metadata) (is_in c.in_ok-targets.targets)) (c.trusted.ensures.value ∙ c.in_ok-course.ensures.state))
