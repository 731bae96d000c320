-- A text in UTF-8 is bytes.
use Rattle.std.proofs.Common.{◌≡◌, ℕ, zero, suc, ◌<◌, Bool, true, false, cond, nat_lt, List, [], ◌∷◌, ◌++◌, inl, inr, refl, subst, arith}
use Rattle.std.specs.Prelude.{⊤}
use Rattle.std.specs.Str.{is_utf8}
use Rattle.std.proofs.lemmas.Bool.{and_parts, ltb-true}
use Rattle.std.proofs.lemmas.Str.{IsUtf8-from_is_utf8}
use lib.Utf8.{scalar, scalars, scalar_cases, encode, encodes}
use Rattle.hex.specs.Hex.{IsBytes}

abbrev AreBytes : List ℕ → Type 0
AreBytes [] = ⊤
AreBytes (x ∷ xs) = (x < 256) × AreBytes xs

AreBytes-append : (xs ys : List ℕ) → AreBytes xs → AreBytes ys → AreBytes (xs ++ ys)
AreBytes-append [] ys p q = q
AreBytes-append (x ∷ xs) ys p q = (p.0, AreBytes-append xs ys p.1 q)

pick : (b : Bool) (xs ys : List ℕ) → (b ≡ true → AreBytes xs) → (b ≡ false → AreBytes ys) → AreBytes (cond b xs ys)
pick true xs ys p q = p refl
pick false xs ys p q = q refl

below : (c : ℕ) → scalar c ≡ true → c < 1114112
below c e = elim (scalar_cases c e) [
  | inl low ↦ omega arith
  | inr high ↦ omega arith
]

-- a character's bytes
AreBytes-encode : (c : ℕ) → c < 1114112 → AreBytes (encode c)
unfolding encode
AreBytes-encode c small =
    pick (nat_lt c 128) _ _ (λ e. let one : c < 128 = ltb-true c 128 e in (omega arith, tt))
    (λ one. pick (nat_lt c 2048) _ _ (λ e. let two : c < 2048 = ltb-true c 2048 e in (omega arith, (omega arith, tt)))
    (λ two. pick (nat_lt c 65536) _ _ (λ e. let three : c < 65536 = ltb-true c 65536 e in (omega arith, (omega arith, (omega arith, tt))))
    (λ three. (omega arith, (omega arith, (omega arith, (omega arith, tt)))))))

AreBytes-encodes : (cs : List ℕ) → scalars cs ≡ true → AreBytes (encodes cs)
AreBytes-encodes [] e = tt
AreBytes-encodes (c ∷ cs) e =
    let p = and_parts (scalar c) (scalars cs) e in
    AreBytes-append (encode c) (encodes cs) (AreBytes-encode c (below c p.0)) (AreBytes-encodes cs p.1)

IsBytes-AreBytes : (xs : List ℕ) → AreBytes xs → IsBytes xs
IsBytes-AreBytes [] h i = omega arith
IsBytes-AreBytes (x ∷ xs) h zero = h.0
IsBytes-AreBytes (x ∷ xs) h (suc i) = IsBytes-AreBytes xs h.1 i

pub IsBytes-is_utf8 : (bs : List ℕ) → is_utf8 bs ≡ true → IsBytes bs
IsBytes-is_utf8 bs e = let u = IsUtf8-from_is_utf8 bs e in subst IsBytes u.1.1 (IsBytes-AreBytes (encodes u.0) (AreBytes-encodes u.0 u.1.0))
