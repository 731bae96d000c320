use Rattle.std.proofs.Common.{◌∙◌, Some, ap, string_bytes, sym}
use Rattle.std.specs.BTreeMap.{get_by_text}
use Rattle.measured.proofs.Knowing.{kept}
use Rattle.measured.proofs.early.keep.Goals as goal

pub returns : goal.returns
returns c = record {
  known = λ names holds found good known.
      let there = ap (get_by_text c.args.known.now.files) (sym c.as_str.ensures.value) ∙ sym c.entry_of.ensures ∙ c.in-Some-Some.is ∙ ap Some c.in-Some-Some.field-0-is in
      kept names holds found (string_bytes c.args.done.name) c.in-Some-Some.field-0-0 _ c.args.known.now c.put.new.known c.put.result there good c.put.ensures.put c.put.ensures.refused known;
}
