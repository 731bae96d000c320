use Rattle.std.proofs.Common.{◌≡◌, ℕ, ◌+◌, ◌-◌, ◌*◌, ◌≤◌, ◌<◌, All, slice_index_or}
use Rattle.lanes.specs.Pending.{IsPending}
use Rattle.lanes.specs.declared.pending.Pending.{Pending}
use Rattle.lanes.proofs.pending.advance.Given as goal

abbrev pub invariant-lanes : goal.invariant-lanes
invariant-lanes l = record {
  pending : All IsPending l.pending;
  done : (i : ℕ) (d : Pending) → i < l.i → let p = slice_index_or l.initial.pending i d in
      slice_index_or l.pending i d ≡ record p { at = p.at + 64 * l.count; left = p.left - l.count };
  same : (i : ℕ) (d : Pending) → l.i ≤ i → slice_index_or l.pending i d ≡ slice_index_or l.initial.pending i d;
}
