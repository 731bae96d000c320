use Rattle.std.proofs.Common.{◌≡◌, ◌≤◌, length, drop}
use Rattle.std.specs.List.{list_any}
use Rattle.examine.specs.Checks as spec
use Rattle.reasons.proofs.order.lists_less.Given as goal

abbrev pub invariant-loop-named : goal.invariant-loop-named
invariant-loop-named l = (l.from ≤ length l.files) × (spec.lists_less l.old l.new ≡ list_any (spec.is_listed_below l.files) (drop l.named-index l.old.files))
