use Rattle.std.proofs.Common.{lit<, rules, tests}
use Rattle.std.proofs.lemmas.Iterator.Search.{all_from_yields_List}
use Rattle.std.proofs.lemmas.Iterator.Splits.{YieldsList-from_str_split}
use Rattle.copies.specs.Paths.{is_part}
use Rattle.copies.proofs.path.has_parts.Goals as goal

pub returns : goal.returns
returns c = record {
  test = all_from_yields_List is_part _ _ c.all.result c.all.ensures.ran
      (YieldsList-from_str_split 47 c.args.path.now (lit< tt) c.split.ensures.text c.split.ensures.has_more c.split.ensures.pattern) (λ x b q k. search (rules, tests));
}
