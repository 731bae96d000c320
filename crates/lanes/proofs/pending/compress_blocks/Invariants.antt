use Rattle.std.proofs.Common.{◌≡◌, ℕ, ◌<◌, drop, slice_index_or}
use Rattle.sha2.specs.Sha256.{hash_after}
use Rattle.lanes.specs.Lanes.{IsRow, lane}
use Rattle.lanes.specs.declared.pending.Pending.{Pending}
use Rattle.lanes.proofs.pending.compress_blocks.Given as goal

abbrev pub invariant-blocks-2 : goal.invariant-blocks-2
invariant-blocks-2 g l = record {
  row : IsRow g.row.N 8 l.state;
  hashes : (i : ℕ) (d : Pending) → i < g.row.N → let p = slice_index_or l.pending i d in
      lane i l.state ≡ hash_after (lane i l.fn.start) (drop p.at p.bytes.items) l.n;
}
