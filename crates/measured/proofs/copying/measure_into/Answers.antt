use Rattle.std.proofs.Common.{map, rules, string_bytes}
use Rattle.measured.specs.Closed.{is_found}
use Rattle.measured.proofs.Knowing.{copied_known}
use Rattle.measured.proofs.SeenFiles.{measured}
use Rattle.measured.proofs.copying.measure_into.Goals as goal

pub returns-clause-measured : goal.returns-clause-measured
returns-clause-measured g c =
    let names = map string_bytes c.args.names.items in
    let holds = (g.F.Folder.gives c.args.folder.now).holds in
    let consistent = c.has_consistent_names-consistent.result in
    let searches = c.searches-searches.result.now in
    measured (g.F.Folder.gives c.args.folder.now).lists holds names _ c.args.course.now c.requires.listed
    (copied_known names holds (g.F.Folder.gives c.copy_all.new.folder).holds consistent c.args.course.now.trusted.root.reading.consistent searches c.args.course.now.searches
    c.in_ok-known.known c.note_all.new.known c.copy_all.new.known c.read_all.new.known
    c.has_consistent_names-consistent.ensures.value c.searches-searches.ensures.value c.in_ok-copies.ensures.same.holds
    (c.in_ok-known.ensures holds (is_found consistent searches)) (c.note_all.ensures.known names holds) (c.in_ok-copies.ensures.known names) (c.read_all.ensures.known names))
    (search rules)
