use Rattle.std.proofs.Common.{ap, is_some, string_bytes, subst}
use Rattle.folder.specs.Measures.{IsMeasureOf}
use Rattle.measured.proofs.Knowing.{wanted_more}
use Rattle.measured.proofs.copying.copy_file.Goals as goal

pub returns-clause-known : goal.returns-clause-known
returns-clause-known g c = λ names found is known.
    wanted_more names (g.F.Folder.gives c.args.folder.now).holds found (string_bytes c.args.placed.there.name) _ c.args.known.now c.put.new.known known c.in_ok-put.ensures.put (ap is_some c.requires.there)
    (record {
      is_found = is;
      measure = subst (λ n. IsMeasureOf c.widened-need.result ((g.F.Folder.gives c.args.folder.now).holds n) c.in_ok-made.made.measure) c.as_str.ensures.value
          c.in_ok-made.ensures.made.measured;
    })
