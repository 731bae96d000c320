use Rattle.std.proofs.Common.{◌∙◌, ℕ, ◌<◌, arith, slice_index}
use Rattle.std.proofs.lemmas.Grind.{same_number_lists}
use Rattle.sha2.specs.Sha256.{initial_hash_256}
use Rattle.lanes.proofs.Row.{lane_filled, lane_stays, length-lane, row_set}
use Rattle.lanes.proofs.pending.begin.Goals as goal

pub words-preserved : goal.words-preserved
words-preserved g c =
    let now = c.words.invariant in
    let k = c.words.k in
    let new = c.with_lane.ensures in
    let within : k < 8 = omega arith in
    record {
      row = row_set k c.with_lane.result new.size now.row;
      filled = lane_filled (λ (j : ℕ). slice_index initial_hash_256 j) c.args.i k c.with_lane.result now.row within new.lane now.filled;
      others = λ j other. lane_stays j c.words.state k c.with_lane.result (new.others j other) ∙ now.others j other;
    }

pub returns : goal.returns
returns g c =
    let now = c.words.invariant in
    let size = length-lane c.args.i now.row in
    record {
      row = now.row;
      lane = same_number_lists _ initial_hash_256 size (λ k lt. now.filled k (omega (arith, size)));
      others = now.others;
    }
