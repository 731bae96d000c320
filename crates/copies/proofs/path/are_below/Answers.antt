use Rattle.std.proofs.Common.{◌∙◌, rules, string_bytes, sym, tests}
use Rattle.std.proofs.lemmas.Iterator.{YieldsList-from_slice}
use Rattle.std.proofs.lemmas.Iterator.Search.{all_from_yields_List}
use Rattle.std.proofs.lemmas.List.Folds.{list_all-map}
use Rattle.copies.specs.Paths.{is_below}
use Rattle.copies.proofs.path.are_below.Goals as goal

pub returns : goal.returns
returns c = record {
  test = all_from_yields_List (λ p. is_below (string_bytes p)) _ _ c.all.result c.all.ensures.ran (YieldsList-from_slice c.args.paths.now cc) (λ x b q k. search (rules, tests))
      ∙ sym (list_all-map is_below string_bytes c.args.paths.now);
}
