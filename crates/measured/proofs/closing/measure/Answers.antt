use Rattle.std.proofs.Common.{map, rules, string_bytes}
use Rattle.measured.proofs.SeenFiles.{measured}
use Rattle.measured.proofs.closing.measure.Goals as goal

pub returns-clause-measured : goal.returns-clause-measured
returns-clause-measured g c =
    measured (g.F.Folder.gives c.args.folder.now).lists (g.F.Folder.gives c.args.folder.now).holds (map string_bytes c.args.names.items) _ c.args.course.now c.requires.listed
    (search rules) (search rules)
