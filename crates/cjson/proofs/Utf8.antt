-- A canonical text is UTF-8.
use Rattle.std.proofs.Common.{◌≡◌, ℕ, suc, ◌<◌, ◌≤◌, ◌^◌, ◌==◌, ◌||◌, ◌&&◌, nat_lt, codes, pos, negsuc, Bool, true, false, List, [], ◌∷◌, ◌++◌, length, get_or, IsUtf8, inl, inr, refl, sym, ap, ◌∙◌, subst, arith, append-nil, true≢false, ne_eqb}
use Rattle.std.specs.Prelude.{if◌then◌else◌, ⊤, Result, Ok, Err, OnOk}
use Rattle.std.proofs.Math.Utf8.{scalar, scalars, encode, encodes, low_scalar}
use Rattle.std.proofs.lemmas.Bool.{and_parts, cases_lt, ltb-true}
use Rattle.std.proofs.lemmas.Fmt.{IsAscii-decimal}
use Rattle.std.proofs.lemmas.Str.{IsUtf8-append, IsUtf8-nil, IsUtf8-encode, IsUtf8-from_ascii, encode_ascii, inside_one}
use Rattle.serde_json.specs.Data.{Num, unsigned, negative, float, boolean}
use Rattle.cjson.specs.Canon.{is_whole, number_text, escaped, quoted, comma_if, text}

pub ascii_then : (x : ℕ) (xs : List ℕ) → x < 128 → IsUtf8 xs → IsUtf8 (x ∷ xs)
ascii_then x xs small u = IsUtf8-append (x ∷ []) xs (subst IsUtf8 (encode_ascii x small) (IsUtf8-encode x (low_scalar x (omega arith)))) u

-- ---- texts

escaped_by : (b : Bool) (x : ℕ) (xs ys : List ℕ) → (if b then 92 ∷ x ∷ (xs ++ ys) else x ∷ (xs ++ ys)) ≡ (if b then 92 ∷ x ∷ xs else x ∷ xs) ++ ys
escaped_by true x xs ys = refl
escaped_by false x xs ys = refl

escaped-append : (xs ys : List ℕ) → escaped (xs ++ ys) ≡ escaped xs ++ escaped ys
escaped-append [] ys = refl
escaped-append (x ∷ xs) ys =
    ap (λ l. if x == 34 || x == 92 then 92 ∷ x ∷ l else x ∷ l) (escaped-append xs ys) ∙ escaped_by (x == 34 || x == 92) x (escaped xs) (escaped ys)

plain : (x : ℕ) → 128 ≤ x → (x == 34 || x == 92) ≡ false
plain x high = rw (ne_eqb x 34 (λ e. omega arith), ne_eqb x 92 (λ e. omega arith))

escaped_high : (xs : List ℕ) → ((k : ℕ) → k < length xs → 128 ≤ get_or xs k 0) → escaped xs ≡ xs
escaped_high [] h = refl
escaped_high (x ∷ xs) h =
    ap (λ b. if b then 92 ∷ x ∷ escaped xs else x ∷ escaped xs) (plain x (h 0 (omega arith))) ∙ ap (λ l. x ∷ l) (escaped_high xs (λ k below. h (suc k) (omega arith)))

escaped_ascii : (b : Bool) (c : ℕ) → c < 128 → IsUtf8 (if b then 92 ∷ c ∷ [] else c ∷ [])
escaped_ascii true c small = ascii_then 92 _ (omega arith) (ascii_then c _ small IsUtf8-nil)
escaped_ascii false c small = ascii_then c _ small IsUtf8-nil

one_char : (c : ℕ) → scalar c ≡ true → IsUtf8 (escaped (encode c))
one_char c ok = elim (cases_lt c 128) [
  | inl small ↦ rw (encode_ascii c small) (escaped_ascii (c == 34 || c == 92) c small)
  | inr big ↦
      let high : (k : ℕ) → k < length (encode c) → 128 ≤ get_or (encode c) k 0 = λ k below. elim (cases_lt (get_or (encode c) k 0) 128) [
        | inl low ↦ absurd (omega (arith, inside_one c [] (encode c) k (sym (append-nil _)) below low))
        | inr h ↦ h
      ] in
      subst IsUtf8 (sym (escaped_high (encode c) high)) (IsUtf8-encode c ok)
]

all_chars : (cs : List ℕ) → scalars cs ≡ true → IsUtf8 (escaped (encodes cs))
all_chars [] e = IsUtf8-nil
all_chars (c ∷ cs) e =
    let p = and_parts _ _ e in
    subst IsUtf8 (sym (escaped-append (encode c) (encodes cs))) (IsUtf8-append _ _ (one_char c p.0) (all_chars cs p.1))

pub IsUtf8-quoted : (s : List ℕ) → IsUtf8 s → IsUtf8 (quoted s)
IsUtf8-quoted s u =
    ascii_then 34 _ (omega arith) (IsUtf8-append _ _ (subst (λ l. IsUtf8 (escaped l)) u.1.1 (all_chars u.0 u.1.0)) (ascii_then 34 [] (omega arith) IsUtf8-nil))

-- ---- the rest

pub IsUtf8-number_text : (n : Num) → is_whole n ≡ true → IsUtf8 (number_text n)
IsUtf8-number_text (unsigned n) whole = IsUtf8-from_ascii _ (IsAscii-decimal n (ltb-true _ _ whole))
IsUtf8-number_text (negative (pos n)) whole = absurd (true≢false (sym whole))
IsUtf8-number_text (negative (negsuc n)) whole =
    let below : n < 2 ^ 63 = ltb-true _ _ whole in
    ascii_then 45 _ (omega arith) (IsUtf8-from_ascii _ (IsAscii-decimal (suc n) (omega arith)))
IsUtf8-number_text (float x) whole = absurd (true≢false (sym whole))

pub IsUtf8-comma_if : (later : Bool) → IsUtf8 (comma_if later)
IsUtf8-comma_if true = ascii_then 44 [] (omega arith) IsUtf8-nil
IsUtf8-comma_if false = IsUtf8-nil

pub IsUtf8-key : (later : Bool) (k : List ℕ) → IsUtf8 k → IsUtf8 (comma_if later ++ (quoted k ++ 58 ∷ []))
IsUtf8-key later k u = IsUtf8-append _ _ (IsUtf8-comma_if later) (IsUtf8-append _ _ (IsUtf8-quoted k u) (ascii_then 58 [] (omega arith) IsUtf8-nil))

-- what is written after UTF-8
pub IsUtf8-then : (old new more : List ℕ) → new ≡ old ++ more → IsUtf8 more → IsUtf8 old → IsUtf8 new
IsUtf8-then old new more written more_is old_is = subst IsUtf8 (sym written) (IsUtf8-append old more old_is more_is)

are_ascii : List ℕ → Bool
are_ascii [] = true
are_ascii (x ∷ xs) = nat_lt x 128 && are_ascii xs

IsUtf8-are_ascii : (xs : List ℕ) → are_ascii xs ≡ true → IsUtf8 xs
unfolding are_ascii
IsUtf8-are_ascii [] e = IsUtf8-nil
IsUtf8-are_ascii (x ∷ xs) e = let p = and_parts _ _ e in ascii_then x xs (ltb-true _ _ p.0) (IsUtf8-are_ascii xs p.1)

pub IsUtf8-null : IsUtf8 (codes "null")
unfolding are_ascii
IsUtf8-null = IsUtf8-are_ascii _ refl

pub IsUtf8-text_boolean : (b : Bool) → IsUtf8 (text (boolean b))
unfolding are_ascii
IsUtf8-text_boolean true = IsUtf8-are_ascii _ refl
IsUtf8-text_boolean false = IsUtf8-are_ascii _ refl

pub IsUtf8-after_boolean : {E : Type 0} (r : Result ⊤ E) (b : Bool) (old new : List ℕ) → OnOk r (new ≡ old ++ text (boolean b)) → OnOk r (IsUtf8 old → IsUtf8 new)
IsUtf8-after_boolean (Ok x) b old new written = λ h. IsUtf8-then old new _ written (IsUtf8-text_boolean b) h
IsUtf8-after_boolean (Err e) b old new written = tt

pub IsUtf8-after_number : {E : Type 0} (r : Result ⊤ E) (n : Num) (old new : List ℕ) → OnOk r (new ≡ old ++ number_text n) → OnOk r (is_whole n ≡ true) → OnOk r (IsUtf8 old → IsUtf8 new)
IsUtf8-after_number (Ok x) n old new written whole = λ h. IsUtf8-then old new _ written (IsUtf8-number_text n whole) h
IsUtf8-after_number (Err e) n old new written whole = tt
