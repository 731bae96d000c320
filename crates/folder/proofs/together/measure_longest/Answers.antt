use Rattle.std.proofs.Common.{sym, subst}
use Rattle.folder.specs.Streams.{AreMeasured}
use Rattle.folder.specs.declared.together.Work.{Work}
use Rattle.folder.proofs.together.measure_longest.Goals as goal
use Rattle.folder.proofs.together.measure_longest.Goals.{in-Some, in_default}

pub jobs-preserved : goal.jobs-preserved
jobs-preserved g c =
    let content = g.O.Opener.content c.args.opener.now in
    elim c.match-pop.branch [
      | in-Some w ↦ λ all. subst (λ (k : Work). AreMeasured content k.done.items) (sym w.work-is) (w.measure_alone.ensures.done (c.jobs.invariant all))
      | in_default w ↦ λ all. subst (λ (k : Work). AreMeasured content k.done.items) (sym w.work-is) (c.jobs.invariant all)
    ]
