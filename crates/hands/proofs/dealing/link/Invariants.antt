use Rattle.std.proofs.Common.{◌≡◌, map, All, length}
use Rattle.hands.specs.Sources.{share_in, shares_at, Untaken}
use Rattle.hands.proofs.dealing.link.Given as goal

abbrev pub invariant-loop-step : goal.invariant-loop-step
invariant-loop-step l = record {
  shares : map share_in l.hands.items ≡ shares_at l.count (length l.hands.items) l.k l.step;
  untaken : All Untaken l.hands.items;
  len : length l.hands.items ≡ length l.fn.hands.items;
}
