use Rattle.std.proofs.Common.{ℕ, ◌≤◌, ◌<◌, slice_index_or}
use Rattle.lanes.specs.declared.pending.Pending.{Pending}
use Rattle.lanes.specs.declared.pending.TheConstants.{MOST_BLOCKS}
use Rattle.lanes.proofs.pending.least_left.Given as goal

abbrev pub invariant-lanes : goal.invariant-lanes
invariant-lanes l = record {
  most : l.least ≤ MOST_BLOCKS;
  least : (i : ℕ) (d : Pending) → i < l.i → l.least ≤ (slice_index_or l.pending i d).left;
}
