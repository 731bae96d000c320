use Rattle.examine.specs.Checks.{file_in}
use Rattle.rolechain.proofs.Chain.{ToGo}
use Rattle.rolechain.proofs.roots.follow.Given as goal

-- the roots that are left to accept, from the state so far
abbrev pub invariant-loop-done : goal.invariant-loop-done
invariant-loop-done g l = ToGo (file_in l.context.files.now) l.context.moment 256 l.initial.state l._done l.state
