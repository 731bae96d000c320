-- Hexadecimal text is ASCII, and is unescaped in JSON.
use Rattle.std.proofs.Common.{◌≡◌, ℕ, suc, ◌/◌, ◌%◌, ◌<◌, ◌≤◌, List, [], ◌∷◌, slice_index, Some, IsUtf8, refl, arith}
use Rattle.std.proofs.lemmas.Str.{IsUtf8-nil}
use Rattle.json.specs.Print.{escape, escape_byte}
use Rattle.json.proofs.Printed.Strings.{escape_byte_plain}
use Rattle.hex.specs.Hex.{IsBytes, hex_digit_value, lower_digits, encode_with, encode_lower}
use Rattle.hex.proofs.HexLemmas.{IsDigits-lower_digits}
use Rattle.cjson.proofs.Utf8.{ascii_then}

digit_least : (c v : ℕ) → hex_digit_value c ≡ Some v → 48 ≤ c
digit_least c v h = grind (arith)

digit_most : (c v : ℕ) → hex_digit_value c ≡ Some v → c ≤ 102
digit_most c v h = grind (arith)

digit_no_backslash : (c v : ℕ) → hex_digit_value c ≡ Some v → c ≡ 92 → ⊥
digit_no_backslash c v h e = grind (arith)

abbrev digit : ℕ → ℕ
digit n = slice_index lower_digits n

escape_byte-digit : (n : ℕ) → n < 16 → escape_byte (digit n) ≡ digit n ∷ []
escape_byte-digit n small =
    let value = IsDigits-lower_digits n small in
    let least = digit_least (digit n) n value in
    escape_byte_plain (digit n) (λ e. omega arith) (digit_no_backslash (digit n) n value) (omega arith)

escape-pair : (x y : ℕ) (rest more : List ℕ) → escape_byte x ≡ x ∷ [] → escape_byte y ≡ y ∷ [] → escape rest ≡ more → escape (x ∷ y ∷ rest) ≡ x ∷ y ∷ more
escape-pair x y rest more p q r = rw (p, q, r)

pub escape-encode_lower : (bs : List ℕ) → IsBytes bs → escape (encode_lower bs) ≡ encode_lower bs
unfolding encode_with
escape-encode_lower [] h = refl
escape-encode_lower (b ∷ rest) h =
    let fits : b < 256 = h 0 in
    escape-pair (digit (b / 16)) (digit (b % 16)) (encode_with lower_digits rest) (encode_with lower_digits rest)
    (escape_byte-digit (b / 16) (omega arith)) (escape_byte-digit (b % 16) (omega arith)) (escape-encode_lower rest (λ k. h (suc k)))

digit_ascii : (n : ℕ) → n < 16 → digit n < 128
digit_ascii n small = let most = digit_most (digit n) n (IsDigits-lower_digits n small) in omega arith

pub IsUtf8-encode_lower : (bs : List ℕ) → IsBytes bs → IsUtf8 (encode_lower bs)
unfolding encode_with
IsUtf8-encode_lower [] h = IsUtf8-nil
IsUtf8-encode_lower (b ∷ rest) h =
    let fits : b < 256 = h 0 in
    ascii_then (digit (b / 16)) (digit (b % 16) ∷ encode_with lower_digits rest) (digit_ascii (b / 16) (omega arith))
    (ascii_then (digit (b % 16)) (encode_with lower_digits rest) (digit_ascii (b % 16) (omega arith)) (IsUtf8-encode_lower rest (λ k. h (suc k))))
