use Rattle.std.proofs.Common.{◌<◌, All, length}
use Rattle.maker.proofs.ring.places_of.Given as goal

-- the places so far
abbrev pub invariant-loop-byte : goal.invariant-loop-byte
invariant-loop-byte l = All (λ p. p < length l.signers) l.places.items
