use Rattle.std.proofs.Common.{◌≡◌, ◌≢◌, ℕ, vec_len}
use Rattle.lanes.specs.Lanes.{IsRow, lane}
use Rattle.lanes.specs.Pending.{IsPending}
use Rattle.folder.specs.Streams.{AreMeasured}
use Rattle.folder.proofs.together.next_of.Given as goal

abbrev pub invariant-jobs : goal.invariant-jobs
invariant-jobs g l = record {
  row : IsRow g.row.N 8 l.state;
  others : (i : ℕ) → i ≢ l.l → lane i l.state ≡ lane i l.initial.state;
  room : IsPending l.room;
  done : AreMeasured (g.O.Opener.content l.opener) l.initial.work.done.items → AreMeasured (g.O.Opener.content l.opener) l.work.done.items;
}

abbrev pub decreases-jobs : goal.decreases-jobs
decreases-jobs g l = vec_len l.work.jobs
