use Rattle.std.proofs.Common.{◌≡◌}
use Rattle.plan.proofs.reading.Reader.read_roles.Given as goal

abbrev pub invariant-loop-nth : goal.invariant-loop-nth
invariant-loop-nth l = l.self.scope ≡ l.initial.self.scope
