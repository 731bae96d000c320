-- The printed form of a name, on one line and between quotes.
use Rattle.std.specs.Prelude.{ℕ, ◌==◌, ◌&&◌, List, [], ◌∷◌, ◌++◌, Bool, if◌then◌else◌, codes, flat_map, length, nat_le, not, take}
use Rattle.hex.specs.Hex.{encode_lower}

-- whether the byte is printed unescaped: 0x20 to 0x7e, but neither `"` nor `\`
abbrev pub is_plain : ℕ → Bool
is_plain byte = nat_le 32 byte && nat_le byte 126 && not (byte == 34) && not (byte == 92)

-- a plain byte, or else `\x` and two lower-case hexadecimal digits
abbrev pub quoted_byte : ℕ → List ℕ
quoted_byte byte = if is_plain byte then byte ∷ [] else 92 ∷ 120 ∷ encode_lower (byte ∷ [])

-- each byte of the name, between double quotes
abbrev pub quoted_text : List ℕ → List ℕ
quoted_text name = 34 ∷ [] ++ flat_map quoted_byte name ++ 34 ∷ []

-- the most bytes of a name that are printed where it may be long
abbrev pub most_bytes : ℕ
most_bytes = 256

-- the name, or its first bytes with `..` behind the closing quote
abbrev pub cut_text : List ℕ → List ℕ
cut_text name =
    if nat_le (length name) most_bytes then quoted_text name
    else quoted_text (take most_bytes name) ++ codes ".."
