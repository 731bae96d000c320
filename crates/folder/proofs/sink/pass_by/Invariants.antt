use Rattle.folder.specs.Passing.{PassesOn}
use Rattle.folder.proofs.sink.pass_by.Given as goal

abbrev pub invariant-loop : goal.invariant-loop
invariant-loop g l = PassesOn l.initial.measuring l.measuring (g.K.Sink.took l.initial.sink) (g.K.Sink.took l.sink)
