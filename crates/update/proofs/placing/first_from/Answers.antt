use Rattle.std.proofs.lemmas.List.Sorted.{IsPartitionPoint-from_clause}
use Rattle.std.proofs.Common.{rules}
use Rattle.update.specs.Stored.{is_before}
use Rattle.update.proofs.Search.{before_first}
use Rattle.update.proofs.placing.first_from.Goals as goal

pub returns : goal.returns
returns c = record {
  first = IsPartitionPoint-from_clause (λ t. is_before c.args.start.now t.now) c.args.texts.now _ c.partition_point.ensures.partitioned
      (before_first c.args.start.now c.args.texts.now c.requires.sorted) (λ a r q k. search rules);
}
