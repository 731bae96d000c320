use Rattle.std.proofs.Common.{◌≡◌, map, All}
use Rattle.std.specs.List.{range_with_len}
use Rattle.hands.specs.Parts.{start_of}
use Rattle.hands.specs.Sources.{share_in, share_to, Untaken}
use Rattle.hands.proofs.dealing.hands_apart.Given as goal

abbrev pub invariant-loop-k : goal.invariant-loop-k
invariant-loop-k l = record {
  from : l.from ≡ start_of l.count l.workers l.k;
  shares : map share_in l.hands.items ≡ map (λ j. share_to l.count l.workers j 1) (range_with_len 0 l.k);
  untaken : All Untaken l.hands.items;
}
