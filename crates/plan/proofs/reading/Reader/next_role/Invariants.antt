use Rattle.std.proofs.Common.{◌≡◌}
use Rattle.plan.proofs.reading.Reader.next_role.Given as goal

abbrev pub invariant-loop : goal.invariant-loop
invariant-loop l = l.self.scope ≡ l.initial.self.scope
