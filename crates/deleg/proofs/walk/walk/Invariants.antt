use Rattle.std.proofs.Common.{◌≡◌}
use Rattle.deleg.specs.Glue.{outlook, pending}
use Rattle.deleg.specs.Cache.{IsCacheOf, examination_in}
use Rattle.deleg.proofs.Stack.{measure}
use Rattle.deleg.proofs.walk.walk.Given as goal

abbrev pub invariant-loop-frame : goal.invariant-loop-frame
invariant-loop-frame g l =
    let q = l.query in
    record {
      same : outlook q (pending q.path.now l.initial.stack.items) l.initial.seen.items ≡ outlook q (pending q.path.now l.stack.items) l.seen.items;
      cache : IsCacheOf (examination_in q) l.cache;
    }

abbrev pub decreases-loop-frame : goal.decreases-loop-frame
decreases-loop-frame g l = measure l.query.limit l.stack.items l.seen.items
