-- The place of the hash in a target's name.
use Rattle.std.proofs.Common.{arith, ℕ, ◌<◌, ◌≡◌, ◌≢◌, ◌∙◌, ap, true, false, refl, List, [], ◌∷◌, ◌++◌, length, slice_index, drop, suc, ◌==◌}
use Rattle.std.proofs.lemmas.Bool.{ne_eqb, or_right, or_from}
use Rattle.std.proofs.lemmas.List.{take-append-drop}
use Rattle.std.proofs.lemmas.Str.Pattern.{NoCharPasses-char, drop_at_char}
use Rattle.std.specs.Str.{NoCharPasses}
use Rattle.std.specs.Str.Pattern.{RFindsChar, SplitsAroundMatch}
use Rattle.meta.specs.Content.{hashed, has_slash}

-- no place of the path has a `/`
abbrev HasNone : List ℕ → Type 0
HasNone path = (i : ℕ) → i < length path → slice_index path i ≢ 47

no_slash : (path : List ℕ) → HasNone path → has_slash path ≡ false
no_slash [] none = refl
no_slash (c ∷ path) none =
    or_from _ _ (ne_eqb c 47 (none 0 (omega arith))) (no_slash path (λ i low. none (suc i) (omega arith)))

slash_after : (dir base : List ℕ) → has_slash (dir ++ 47 ∷ base) ≡ true
slash_after [] base = refl
slash_after (c ∷ dir) base = or_right (c == 47) _ (slash_after dir base)

hashed-plain : (hash path : List ℕ) → HasNone path → hashed hash path ≡ hash ++ 46 ∷ path
hashed-plain hash [] none = refl
hashed-plain hash (c ∷ path) none = rw (no_slash (c ∷ path) none)

hashed-in_folder : (hash dir base : List ℕ) → HasNone base
    → hashed hash (dir ++ 47 ∷ base) ≡ dir ++ 47 ∷ (hash ++ 46 ∷ base)
hashed-in_folder hash [] base none = ap (λ l. 47 ∷ l) (hashed-plain hash base none)
hashed-in_folder hash (c ∷ dir) base none =
    rw (slash_after (c ∷ dir) base) (ap (λ l. c ∷ l) (hashed-in_folder hash dir base none))

-- the name if `rsplit_once` finds no `/`
pub no_folder : (hash path : List ℕ) → NoCharPasses (λ d. d == 47) path → hashed hash path ≡ hash ++ 46 ∷ path
no_folder hash path none = hashed-plain hash path (λ i low. NoCharPasses-char 47 path i none (omega arith) low)

-- the name if it cuts the path at the last `/`
pub in_folder : (hash path dir base : List ℕ) → SplitsAroundMatch (RFindsChar 47) path dir base
    → hashed hash path ≡ dir ++ 47 ∷ (hash ++ 46 ∷ base)
in_folder hash path dir base (i, j, (absent, slash), front, back, _, _, _) =
    let none : HasNone base = λ k low. NoCharPasses-char 47 base k (rw back absent) (omega arith) low in
    let cut : drop i path ≡ 47 ∷ drop j path = drop_at_char 47 path i j slash (omega arith) in
    let whole : path ≡ dir ++ 47 ∷ base = rw (front, back, ← cut, take-append-drop) in
    ap (hashed hash) whole ∙ hashed-in_folder hash dir base none
