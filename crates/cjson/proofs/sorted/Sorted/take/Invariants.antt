use Rattle.std.proofs.Common.{◌≡◌}
use Rattle.std.specs.Vec.Iter.{into_iter_items}
use Rattle.cjson.specs.Names.{named}
use Rattle.cjson.proofs.sorted.Sorted.take.Given as goal

abbrev pub invariant-loop-found : goal.invariant-loop-found
invariant-loop-found g l = named l.name (into_iter_items l.found-iterator) ≡ named l.name (into_iter_items l.initial.found-iterator)
