-- Worked values of the printed form of a name.
use Rattle.std.proofs.Common.{◌≡◌, [], ◌∷◌, ◌++◌, refl, codes, replicate}
use Rattle.hex.proofs.OnLiterals.{hex_on_literals}
use Rattle.inout.specs.Quoted.{cut_text, quoted_text}

-- `a`, a quote, `b`, a backslash, `é` in UTF-8 and a line feed
quoted-escapes : quoted_text (97 ∷ 34 ∷ 98 ∷ 92 ∷ 195 ∷ 169 ∷ 10 ∷ []) ≡ codes "\"a\\x22b\\x5c\\xc3\\xa9\\x0a\""
unfolding hex_on_literals
quoted-escapes = refl

-- the first and the last byte that are printed unescaped, and their neighbors
quoted-ends : quoted_text (31 ∷ 32 ∷ 126 ∷ 127 ∷ []) ≡ codes "\"\\x1f ~\\x7f\""
unfolding hex_on_literals
quoted-ends = refl

-- 256 bytes, and one more
cut-not : cut_text (replicate 256 97) ≡ 34 ∷ replicate 256 97 ++ 34 ∷ []
cut-not = refl

cut-behind : cut_text (replicate 257 97) ≡ 34 ∷ replicate 256 97 ++ 34 ∷ codes ".."
cut-behind = refl
