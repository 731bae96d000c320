use Rattle.std.proofs.Common.{refl, slice_index_or, drop, take, ◌+◌, ◌*◌}
use Rattle.sha2.specs.Sha256.{hash_after}
use Rattle.lanes.specs.Lanes.{lane}
use Rattle.lanes.proofs.Blocks.{next_block}
use Rattle.lanes.proofs.pending.compress_blocks.Goals as goal

pub blocks-2-init : goal.blocks-2-init
unfolding hash_after
blocks-2-init g c = record { row = c.requires.row; hashes = λ i d lt. refl }

pub blocks-2-preserved : goal.blocks-2-preserved
blocks-2-preserved g c = record {
  row = c.compress-state.ensures.row;
  hashes = λ i d lt.
      let p = slice_index_or c.args.pending.now i d in
      let b = take 64 (drop (p.at + 64 * c.blocks-2.n) p.bytes.items) in
      next_block (lane i c.args.start) (lane i c.blocks-2.state) _ p.bytes.items p.at c.blocks-2.n (c.blocks-2.invariant.hashes i d lt)
      (c.compress-state.ensures.lanes i b lt (c.block_words.ensures.blocks i d lt));
}
