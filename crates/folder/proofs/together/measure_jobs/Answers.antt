use Rattle.std.proofs.Common.{subst, sym}
use Rattle.std.proofs.lemmas.List.Elements.{All-nil}
use Rattle.folder.specs.Streams.{AreMeasured}
use Rattle.folder.proofs.together.measure_jobs.Goals as goal

pub returns : goal.returns
returns g c = c.measure_together.ensures (c.measure_longest.ensures (subst (AreMeasured (g.O.Opener.content c.args.opener.now)) (sym c.new.ensures.items) (All-nil _)))
