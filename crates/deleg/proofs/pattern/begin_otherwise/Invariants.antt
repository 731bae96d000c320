use Rattle.std.proofs.Common.{◌≡◌, length}
use Rattle.deleg.specs.Glue.{begin_otherwise}
use Rattle.deleg.proofs.pattern.begin_otherwise.Given as goal

abbrev pub invariant-loop-p : goal.invariant-loop-p
invariant-loop-p l = begin_otherwise l.pattern l.path ≡ begin_otherwise l.left l.rest

abbrev pub decreases-loop-p : goal.decreases-loop-p
decreases-loop-p l = length l.left
