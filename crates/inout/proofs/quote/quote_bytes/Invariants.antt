use Rattle.std.proofs.Common.{◌≡◌, [], ◌∷◌, ◌++◌, take, string_bytes}
use Rattle.std.specs.List.{flat_map}
use Rattle.inout.specs.Quoted.{quoted_byte}
use Rattle.inout.proofs.quote.quote_bytes.Given as goal

abbrev pub invariant-loop-byte : goal.invariant-loop-byte
invariant-loop-byte l = string_bytes l.text ≡ 34 ∷ [] ++ flat_map quoted_byte (take l.byte-index l.bytes)
