-- Arrays that are written out.
use Rattle.std.proofs.Common.{◌≡◌, ◌∷◌, ◌∙◌, ◌+◌, ◌<◌, [], ℕ, List, length, get_or, ap, sym, arith}
use Rattle.std.proofs.Math.ListN.{drop, drop_of_length-le}
use Rattle.std.proofs.lemmas.List.{drop_more}

-- a list of eight, element by element
pub all_eight : {X : Type 0} (xs : List X) → length xs ≡ 8 → (a b c d e f g h : X)
    → get_or xs 0 a ∷ get_or xs 1 b ∷ get_or xs 2 c ∷ get_or xs 3 d
    ∷ get_or xs 4 e ∷ get_or xs 5 f ∷ get_or xs 6 g ∷ get_or xs 7 h ∷ [] ≡ xs
all_eight {X = X} xs size a b c d e f g h =
    let at : (i : ℕ) (x : X) → i < length xs → drop i xs ≡ get_or xs i x ∷ drop (i + 1) xs = drop_more xs in
    let end : drop 8 xs ≡ [] = drop_of_length-le xs {i = 8} (omega (arith, size)) in
    let s7 = at 7 h (omega (arith, size)) ∙ ap (λ r. get_or xs 7 h ∷ r) end in
    let s6 = at 6 g (omega (arith, size)) ∙ ap (λ r. get_or xs 6 g ∷ r) s7 in
    let s5 = at 5 f (omega (arith, size)) ∙ ap (λ r. get_or xs 5 f ∷ r) s6 in
    let s4 = at 4 e (omega (arith, size)) ∙ ap (λ r. get_or xs 4 e ∷ r) s5 in
    let s3 = at 3 d (omega (arith, size)) ∙ ap (λ r. get_or xs 3 d ∷ r) s4 in
    let s2 = at 2 c (omega (arith, size)) ∙ ap (λ r. get_or xs 2 c ∷ r) s3 in
    let s1 = at 1 b (omega (arith, size)) ∙ ap (λ r. get_or xs 1 b ∷ r) s2 in
    sym (at 0 a (omega (arith, size)) ∙ ap (λ r. get_or xs 0 a ∷ r) s1)
