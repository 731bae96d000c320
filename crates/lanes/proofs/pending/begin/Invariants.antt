use Rattle.std.proofs.Common.{◌≡◌, ◌≢◌, ℕ, ◌<◌, slice_index}
use Rattle.sha2.specs.Sha256.{initial_hash_256}
use Rattle.lanes.specs.Lanes.{IsRow, lane}
use Rattle.lanes.proofs.pending.begin.Given as goal

abbrev pub invariant-words : goal.invariant-words
invariant-words g l = record {
  row : IsRow g.row.N 8 l.state;
  filled : (j : ℕ) → j < l.k → slice_index (lane l.i l.state) j ≡ slice_index initial_hash_256 j;
  others : (j : ℕ) → j ≢ l.i → lane j l.state ≡ lane j l.initial.state;
}
