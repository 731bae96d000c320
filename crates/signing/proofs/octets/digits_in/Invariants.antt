use Rattle.std.proofs.Common.{◌≡◌, take}
use Rattle.signing.specs.Octets.{digits_in}
use Rattle.signing.proofs.octets.digits_in.Given as goal

abbrev pub invariant-loop-byte : goal.invariant-loop-byte
invariant-loop-byte l = l.digits.items ≡ digits_in (take l.byte-index l.file)
