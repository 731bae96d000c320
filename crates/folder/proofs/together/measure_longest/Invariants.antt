use Rattle.folder.specs.Streams.{AreMeasured}
use Rattle.folder.proofs.together.measure_longest.Given as goal

abbrev pub invariant-jobs : goal.invariant-jobs
invariant-jobs g l = AreMeasured (g.O.Opener.content l.opener) l.initial.work.done.items → AreMeasured (g.O.Opener.content l.opener) l.work.done.items
