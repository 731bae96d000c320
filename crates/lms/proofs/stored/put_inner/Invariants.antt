use Rattle.std.proofs.Common.{◌≡◌, ◌*◌, ◌^◌, length}
use Rattle.lms.specs.Lms.{levels}
use Rattle.lms.proofs.stored.put_inner.Given as goal

abbrev pub invariant-inner : goal.invariant-inner
invariant-inner l = length l.nodes ≡ 2 * 2 ^ levels l.fn.kind.height
