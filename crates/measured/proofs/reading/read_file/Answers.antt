use Rattle.std.proofs.Common.{false, is_some, string_bytes, ap, sym, ◌∙◌, subst}
use Rattle.folder.specs.Measures.{IsMeasureOf}
use Rattle.std.specs.Option.{option_map_or}
use Rattle.cycle.specs.Workflow.{Target}
use Rattle.measured.specs.Known.{covers, is_measured}
use Rattle.measured.proofs.Covering.{covers_still, put_grows}
use Rattle.measured.proofs.Knowing.{wanted_more}
use Rattle.measured.proofs.reading.read_file.Goals as goal

pub returns-clause-known : goal.returns-clause-known
returns-clause-known g c = λ names found is known.
    wanted_more names (g.F.Folder.gives c.args.folder.now).holds found (string_bytes c.args.there.name) _ c.args.known.now c.put.new.known known c.in_ok-put.ensures.put (ap is_some c.requires.there)
    (record { is_found = is; measure = subst (λ n. IsMeasureOf c.widened-need.result ((g.F.Folder.gives c.args.folder.now).holds n) c.in_ok-measure.field-0) c.as_str.ensures.value c.in_ok-measure.ensures.given })

pub returns-clause-grows : goal.returns-clause-grows
returns-clause-grows g c =
    put_grows (string_bytes c.args.there.name) _ c.args.known.now c.put.new.known c.in_ok-put.ensures.put (ap is_some c.requires.there)
    (λ (t : Target) h. ap (λ need. covers need t) c.widened-need.ensures ∙ covers_still c.need_of.result c.args.target.now t
    (c.need_of.ensures t (sym (ap (λ o. option_map_or (λ o. is_measured o t) o false) c.requires.there) ∙ h)))
