-- The last slash of a path.
use Rattle.std.proofs.Common.{arith, refl, inl, inr, ℕ, ◌<◌, ◌≡◌, ◌==◌, List, [], ◌∷◌, ◌++◌, codes, length, drop}
use Rattle.std.proofs.lemmas.List.{take-append-drop}
use Rattle.std.proofs.lemmas.Str.Pattern.{NoCharPasses-char, drop_at_char}
use Rattle.std.specs.Str.{NoCharPasses}
use Rattle.std.specs.Str.Pattern.{RFindsChar, SplitsAroundMatch}
use Rattle.keyfiles.specs.Folders.{HasNoSlash, IsFolderOf, before_slash}

-- if `rsplit_once` finds no `/`
pub in_current : (path : List ℕ) → NoCharPasses (λ d. d == 47) path → IsFolderOf path (codes ".")
unfolding IsFolderOf
in_current path none = inl ((λ i low. NoCharPasses-char 47 path i none (omega arith) low), refl)

-- if it cuts the path at the last `/`
in_folder : (path dir base : List ℕ) → SplitsAroundMatch (RFindsChar 47) path dir base → IsFolderOf path (before_slash dir)
unfolding IsFolderOf
in_folder path dir base (i, j, (absent, slash), front, back, _, _, _) =
    let none : HasNoSlash base = λ k low. NoCharPasses-char 47 base k (rw back absent) (omega arith) low in
    let cut : drop i path ≡ 47 ∷ drop j path = drop_at_char 47 path i j slash (omega arith) in
    let whole : path ≡ dir ++ 47 ∷ base = rw (front, back, ← cut, take-append-drop) in
    inr (dir, base, whole, none, refl)

-- behind something
pub in_some : (path dir base : List ℕ) → SplitsAroundMatch (RFindsChar 47) path dir base → 0 < length dir → IsFolderOf path dir
in_some path [] base splits some = absurd (omega (arith, some))
in_some path (c ∷ dir) base splits some = in_folder path (c ∷ dir) base splits

-- or behind nothing
pub in_root : (path dir base : List ℕ) → SplitsAroundMatch (RFindsChar 47) path dir base → length dir ≡ 0 → IsFolderOf path (codes "/")
in_root path [] base splits none = in_folder path [] base splits
in_root path (c ∷ dir) base splits none = absurd (omega (arith, none))
