use Rattle.std.proofs.Common.{◌≤◌}
use Rattle.lookups.proofs.metadata.Metadata.size.Given as goal

abbrev pub invariant-loop-bytes : goal.invariant-loop-bytes
invariant-loop-bytes l = 1 ≤ l.size
