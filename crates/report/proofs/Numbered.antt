-- Texts of numbered elements, one after another.
use Rattle.std.proofs.Common.{◌≡◌, ◌∙◌, ◌≤◌, ◌<◌, ◌+◌, arith, ℕ, zero, suc, List, [], ◌∷◌, ◌++◌, length, take, get_or, flat_map, ap, sym, refl, append-nil, append_assoc}
use Rattle.std.specs.List.{enumerate_from}

module _ {X : Type 0} (f : ℕ × X → List ℕ) where
  -- one element more, with its number
  pub one_more : (xs : List X) (n i : ℕ) (x : X) → i < length xs → x ≡ get_or xs i x
      → flat_map f (take (i + 1) (enumerate_from n xs)) ≡ flat_map f (take i (enumerate_from n xs)) ++ f (i + n, x)
  one_more [] n i x lt is = absurd (omega arith)
  one_more (y ∷ ys) n zero x lt is =
      let at : n ≡ 0 + n = omega arith in
      append-nil (f (n, y)) ∙ ap (λ k. f (k, y)) at ∙ ap (λ z. f (0 + n, z)) (sym is)
  one_more (y ∷ ys) n (suc i) x lt is =
      let at : i + (n + 1) ≡ suc i + n = omega arith in
      let next : suc i + 1 ≡ suc (i + 1) = omega arith in
      ap (λ k. flat_map f (take k ((n, y) ∷ enumerate_from (n + 1) ys))) next
      ∙ ap (λ l. f (n, y) ++ l) (one_more ys (n + 1) i x (omega arith) is ∙ ap (λ k. flat_map f (take i (enumerate_from (n + 1) ys)) ++ f (k, x)) at)
      ∙ sym (append_assoc (f (n, y)) (flat_map f (take i (enumerate_from (n + 1) ys))) (f (suc i + n, x)))

  -- all elements
  pub all_of : (xs : List X) (n i : ℕ) → length xs ≤ i → flat_map f (take i (enumerate_from n xs)) ≡ flat_map f (enumerate_from n xs)
  all_of [] n zero le = refl
  all_of [] n (suc i) le = refl
  all_of (y ∷ ys) n zero le = absurd (omega arith)
  all_of (y ∷ ys) n (suc i) le = ap (λ l. f (n, y) ++ l) (all_of ys (n + 1) i (omega arith))
