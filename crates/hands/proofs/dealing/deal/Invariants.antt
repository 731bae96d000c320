use Rattle.std.proofs.Common.{◌≡◌, map, All, length}
use Rattle.hands.specs.Sources.{share_in, shares_at, Untaken}
use Rattle.hands.proofs.dealing.deal.Given as goal

abbrev pub invariant-loop-k : goal.invariant-loop-k
invariant-loop-k l = record {
  shares : map share_in l.hands.items ≡ shares_at l.count l.workers l.k 1;
  untaken : All Untaken l.hands.items;
  len : length l.hands.items ≡ l.workers;
}
