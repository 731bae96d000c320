-- Texts that are too long for a signature.
use Rattle.std.proofs.Common.{◌≡◌, ◌<◌, ◌/◌, ◌*◌, ℕ, List, length, Bool, true, false, Result, Ok, Err, refl, arith}
use Rattle.std.specs.Option.{option_map_or}
use Rattle.cjson.specs.Form.{ok}
use Rattle.hex.specs.Hex.{decode_of}
use Rattle.hex.specs.declared.error.FromHexError.{FromHexError}
use Rattle.hex.proofs.HexLemmas.{decode_of-ok}
use Rattle.lms.specs.Lms.{is_valid}
use Rattle.lms.proofs.Law.{is_valid-length}
use Rattle.keys.specs.Keys.{is_signed_by}

-- too many bytes
is_valid-long : (p m s : List ℕ) (b : Bool) → is_valid p m s ≡ b → 2668 < length s → false ≡ b
is_valid-long p m s true is long = let short = is_valid-length p m s is in absurd (omega arith)
is_valid-long p m s false is long = refl

decoded-long : (p m sig : List ℕ) (d : Result (List ℕ) FromHexError) → decode_of sig ≡ d → 2668 < length sig / 2
    → false ≡ option_map_or (is_valid p m) (ok d) false
decoded-long p m sig (Ok bytes) is long =
    let twice : length sig ≡ 2 * length bytes = (decode_of-ok sig bytes is).2 in
    is_valid-long p m bytes _ refl (omega arith)
decoded-long p m sig (Err e) is long = refl

-- a text whose half is too long is no signature
pub long_is_unsigned : (p m sig : List ℕ) → 2668 < length sig / 2 → false ≡ is_signed_by p m sig
long_is_unsigned p m sig long = decoded-long p m sig _ refl long
