-- The lines that say why the files of targets are refused.
use Rattle.std.proofs.Common.{◌≡◌, ◌∙◌, ◌+◌, ◌<◌, ◌++◌, ℕ, List, [], ◌∷◌, String, ap, get_or, length, map, string_bytes, sym, take}
use Rattle.std.proofs.lemmas.List.{map-append, take_more}

-- one text more
pub one_more : {X Y : Type 0} (f : X → List ℕ) (texts : List (String Y)) (xs : List X) (i : ℕ) (x : X) (text : String Y)
    → i < length xs → x ≡ get_or xs i x → map string_bytes texts ≡ map f (take i xs) → string_bytes text ≡ f x
    → map string_bytes (texts ++ text ∷ []) ≡ map f (take (i + 1) xs)
one_more f texts xs i x text inside at so_far is =
    map-append string_bytes texts (text ∷ [])
    ∙ ap (λ l. l ++ string_bytes text ∷ []) so_far
    ∙ ap (λ t. map f (take i xs) ++ t ∷ []) (is ∙ ap f at)
    ∙ sym (map-append f (take i xs) (get_or xs i x ∷ []))
    ∙ ap (map f) (sym (take_more xs i x inside))
