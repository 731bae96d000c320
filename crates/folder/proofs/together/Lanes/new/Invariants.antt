use Rattle.std.proofs.Common.{◌≡◌, All, None, length}
use Rattle.lanes.specs.Pending.{IsPending}
use Rattle.folder.proofs.together.Lanes.new.Given as goal

abbrev pub invariant-lanes : goal.invariant-lanes
invariant-lanes g l = record {
  rooms : length l.rooms.items ≡ l.counter;
  streams : length l.streams.items ≡ l.counter;
  pending : All IsPending l.rooms.items;
  none : All (λ o. o ≡ None) l.streams.items;
}
