use Rattle.std.proofs.Common.{arith}
use Rattle.hex.proofs.HexLemmas.{decode_sized-encode_lower}
use Rattle.signing.proofs.key.encoded.Goals as goal

pub returns : goal.returns
returns c = record {
  digits = c.encode.ensures;
  back = decode_sized-encode_lower c.args.bytes.now 56 c.requires (λ i. omega (arith, c.type_inv.bytes i));
}
