-- Lists of names that are copied.
use Rattle.std.proofs.Common.{◌≡◌, ℕ, List, [], ◌∷◌, true, String, string_bytes, map, refl, sym}
use Rattle.std.specs.Cmp.Lexicographic.{pointwise}
use Rattle.std.specs.List.{AllZip}
use Rattle.std.specs.Str.{bytes_eq}
use Rattle.std.proofs.lemmas.Slice.Eq.{bytes_eq-Decides}

bytes_eq-same : (xs ys : List ℕ) → ys ≡ xs → bytes_eq xs ys ≡ true
bytes_eq-same xs ys e = (bytes_eq-Decides xs ys).1 (sym e)

module _ {Y : Type 0} where
  pub copied_names : (names copies : List (String Y)) → AllZip (λ s t. string_bytes t ≡ string_bytes s) names copies
      → pointwise bytes_eq (map string_bytes names) (map string_bytes copies) ≡ true
  copied_names [] [] h = refl
  copied_names [] (y ∷ ys) h = absurd h
  copied_names (x ∷ xs) [] h = absurd h
  copied_names (x ∷ xs) (y ∷ ys) h = rw (bytes_eq-same (string_bytes x) (string_bytes y) h.0) (copied_names xs ys h.1)
