use Rattle.std.proofs.Common.{◌≡◌}
use Rattle.plan.proofs.reading.Reader.walk_for.Given as goal

abbrev pub invariant-loop-visited : goal.invariant-loop-visited
invariant-loop-visited l = l.self.scope ≡ l.initial.self.scope
