use Rattle.std.proofs.Common.{◌≡◌}
use Rattle.plan.proofs.reading.Reader.next_in.Given as goal

abbrev pub invariant-loop-place : goal.invariant-loop-place
invariant-loop-place l = l.self.scope ≡ l.initial.self.scope
