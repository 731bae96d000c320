use Rattle.std.proofs.Common.{◌∙◌, ap, bytes_eq, not, sym, take}
use Rattle.std.specs.List.{list_any}
use Rattle.keys.proofs.Found.{listed_more}
use Rattle.signing.proofs.Counts.{counted_more, none_counted, none_listed}
use Rattle.signing.proofs.counted.id_count.Goals as goal

pub loop-id-init : goal.loop-id-init
loop-id-init c = (c.new-seen.ensures.len ∙ sym (none_counted c.args.ids.now), none_listed c.new-seen.result c.new-seen.ensures.empty c.args.ids.now)

pub loop-id-preserved : goal.loop-id-preserved
loop-id-preserved c = (
  counted_more _ _ c.id-item.result _ _ _ c.loop-id-test.true c.id-item.is
      (c.in_ok-insert.ensures.added ∙ ap not (c.loop-id.invariant.1 c.as_str.result.now) ∙ ap (λ x. not (list_any (bytes_eq x) (take c.loop-id.id-index c.args.ids.now))) c.as_str.ensures.value)
      c.loop-id.invariant.0 c.in_ok-insert.ensures.len,
  listed_more _ _ c.as_str.result _ _ _ c.in_ok-insert.ensures.updates c.loop-id-test.true c.id-item.is c.as_str.ensures.value c.loop-id.invariant.1,
)
