use Rattle.std.proofs.Common.{◌≡◌, ℕ, ◌<◌, ◌+◌, ◌*◌, length, slice_index, slice_index_or}
use Rattle.sha2.specs.Sha256.{word_at}
use Rattle.lanes.specs.declared.pending.Pending.{Pending}
use Rattle.lanes.proofs.pending.block_column.Given as goal

abbrev pub invariant-lanes : goal.invariant-lanes
invariant-lanes g l = record {
  size : length l.column ≡ g.row.N;
  words : (i : ℕ) (d : Pending) → i < l.i → let p = slice_index_or l.pending i d in slice_index l.column i ≡ word_at p.bytes.items (p.at + l.offset + 4 * l.k);
}
