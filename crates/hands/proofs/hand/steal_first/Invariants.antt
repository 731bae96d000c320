use Rattle.std.proofs.Common.{◌≡◌, length}
use Rattle.hands.specs.Sources.{parts_in}
use Rattle.hands.proofs.Trying.{Tried}
use Rattle.hands.proofs.hand.steal_first.Given as goal

abbrev pub invariant-loop-place : goal.invariant-loop-place
invariant-loop-place l = record {
  tried : Tried l.place l.fn.others.items l.others.items;
  parts : parts_in l.others.items ≡ parts_in l.fn.others.items;
  len : length l.others.items ≡ length l.fn.others.items;
}
