use Rattle.std.proofs.Common.{◌≡◌}
use Rattle.plan.proofs.reading.Reader.read_roots.Given as goal

abbrev pub invariant-loop : goal.invariant-loop
invariant-loop l = l.self.scope ≡ l.initial.self.scope
