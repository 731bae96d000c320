use Rattle.std.proofs.Common.{arith, slice_index_or, length, ◌<◌}
use Rattle.lanes.specs.Lanes.{lane}
use Rattle.lanes.proofs.Blocks.{advanced}
use Rattle.lanes.proofs.pending.take_blocks.Goals as goal

pub returns-clause-reaches : goal.returns-clause-reaches
returns-clause-reaches g c = λ i d m lt reaches.
    let within : i < length c.args.pending.now = omega (arith, lt, c.requires.lanes) in
    advanced (lane i c.args.state.now) _ (slice_index_or c.args.pending.now i d) _ c.least_left-count.result m (c.least_left-count.ensures.least i d within)
    (c.compress_blocks.ensures.hashes i d lt) (c.advance.ensures.lanes i d within) reaches
