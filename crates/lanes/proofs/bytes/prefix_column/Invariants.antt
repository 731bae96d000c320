use Rattle.std.proofs.Common.{◌≡◌, ℕ, ◌<◌, ◌*◌, [], length, slice_index, slice_index_or}
use Rattle.sha2.specs.Sha256.{word_at}
use Rattle.lanes.proofs.bytes.prefix_column.Given as goal

abbrev pub invariant-lanes : goal.invariant-lanes
invariant-lanes g l = record {
  size : length l.column ≡ g.row.N;
  each : (i : ℕ) → i < l.i → length (slice_index_or l.texts i []) ≡ 22;
  words : (i : ℕ) → i < l.i → slice_index l.column i ≡ word_at (slice_index_or l.texts i []) (4 * l.k);
}
