-- The paths that names stand for.
use Rattle.std.proofs.Common.{◌≡◌, ◌≢◌, ◌∙◌, ◌<◌, ℕ, zero, suc, true, false, List, [], ◌∷◌, ◌++◌, ◌==◌, ap, arith, drop, length, map, refl, slice_index, string_bytes, string_cmp, string_eq, subst, sym, String}
use Rattle.std.proofs.lemmas.Bool.{and_right, ne_eqb, or_from, or_right}
use Rattle.std.proofs.lemmas.Bool.Decides.{nat_tests}
use Rattle.std.proofs.lemmas.List.{take-append-drop}
use Rattle.std.proofs.lemmas.List.Filters.{dedup_is}
use Rattle.std.proofs.lemmas.List.Kept.{Any-dedup, Contains-from_dedup, IsStrictlySortedBy-dedup}
use Rattle.std.proofs.lemmas.List.Sorted.{Contains-permutation, IsPermutation-sym}
use Rattle.std.proofs.lemmas.Slice.Eq.{bytes_eq-Decides}
use Rattle.std.proofs.lemmas.Str.Pattern.{NoCharPasses-char, drop_at_char}
use Rattle.std.specs.List.{AllByRecursion, Contains, after_first, before_first, dedup, list_any, position_or_len}
use Rattle.std.specs.List.Retain.{DiffersFromLast, IsFiltered}
use Rattle.std.specs.List.Sorted.{IsPermutation, IsSorted, IsStrictlySortedBy}
use Rattle.std.specs.Cmp.Lexicographic.{slice_cmp, texts_ties}
use Rattle.std.specs.Ordering.{nat_cmp}
use Rattle.std.specs.String.{string_cmp_total, string_eq_equiv}
use Rattle.std.specs.declared.cmp.Ordering.TheVariants.{Less}
use Rattle.std.specs.Str.{NoCharPasses}
use Rattle.std.specs.Str.Pattern.{RFindsChar, SplitsAroundMatch}
use Rattle.meta.specs.Content.{has_slash}
use Rattle.paths.specs.Names.{AreOnceInOrder, is_dot, is_hash, path_in, unhashed}

-- ---- the digest at the front

undotted : (name : List ℕ) → position_or_len is_dot name ≡ length name → list_any is_dot name ≡ false
undotted [] all = refl
undotted (c ∷ name) all = grind (arith, nat_tests, undotted name)

dotted : (name : List ℕ) → position_or_len is_dot name < length name → list_any is_dot name ≡ true
dotted [] some = absurd (omega arith)
dotted (c ∷ name) some = grind (arith, nat_tests, dotted name)

pub whole : (name : List ℕ) → position_or_len is_dot name ≡ length name → name ≡ unhashed name
whole name all = rw (undotted name all) refl

pub hashed : (name digits rest : List ℕ) → position_or_len is_dot name < length name → digits ≡ before_first is_dot name
    → rest ≡ after_first is_dot name → is_hash digits ≡ true → rest ≡ unhashed name
hashed name digits rest some before after is =
    rw (dotted name some, subst (λ d. is_hash d ≡ true) before is) after

pub other : (name digits : List ℕ) → digits ≡ before_first is_dot name → is_hash digits ≡ false → name ≡ unhashed name
other name digits before isnt =
    rw (and_right (list_any is_dot name) _ (subst (λ d. is_hash d ≡ false) before isnt)) refl

-- ---- the folder in front

-- no place of the name has a `/`
abbrev HasNone : List ℕ → Type 0
HasNone name = (i : ℕ) → i < length name → slice_index name i ≢ 47

no_slash : (name : List ℕ) → HasNone name → has_slash name ≡ false
no_slash [] none = refl
no_slash (c ∷ name) none =
    or_from _ _ (ne_eqb c 47 (none 0 (omega arith))) (no_slash name (λ i low. none (suc i) (omega arith)))

slash_after : (folder base : List ℕ) → has_slash (folder ++ 47 ∷ base) ≡ true
slash_after [] base = refl
slash_after (c ∷ folder) base = or_right (c == 47) _ (slash_after folder base)

plain : (name : List ℕ) → HasNone name → path_in name ≡ unhashed name
plain [] none = refl
plain (c ∷ name) none = rw (no_slash (c ∷ name) none) refl

below : (folder base : List ℕ) → HasNone base → path_in (folder ++ 47 ∷ base) ≡ folder ++ 47 ∷ unhashed base
below [] base none = ap (λ l. 47 ∷ l) (plain base none)
below (c ∷ folder) base none = rw (slash_after (c ∷ folder) base) (ap (λ l. c ∷ l) (below folder base none))

-- the path if `rsplit_once` finds no `/`
pub no_folder : (name : List ℕ) → NoCharPasses (λ d. d == 47) name → path_in name ≡ unhashed name
no_folder name none = plain name (λ i low. NoCharPasses-char 47 name i none (omega arith) low)

-- the path if it cuts the name at the last `/`
pub in_folder : (name folder base : List ℕ) → SplitsAroundMatch (RFindsChar 47) name folder base
    → path_in name ≡ folder ++ 47 ∷ unhashed base
in_folder name folder base (i, j, (absent, slash), front, back, _, _, _) =
    let none : HasNone base = λ k low. NoCharPasses-char 47 base k (rw back absent) (omega arith) low in
    let cut : drop i name ≡ 47 ∷ drop j name = drop_at_char 47 name i j slash (omega arith) in
    let whole : name ≡ folder ++ 47 ∷ base = rw (front, back, ← cut, take-append-drop) in
    ap path_in whole ∙ below folder base none

-- ---- each once, in order

pub contains_map : {A B : Type 0} (f : A → B) (xs : List A) (x : A) → Contains xs x → Contains (map f xs) (f x)
contains_map f [] x (k, low, is) = absurd (omega arith)
contains_map f (y ∷ ys) x (zero, low, is) = (0, omega arith, ap f is)
contains_map f (y ∷ ys) x (suc k, low, is) =
    let at = contains_map f ys x (k, omega arith, is) in (suc at.0, omega arith, at.2)

record IsImage {A B : Type 0} (f : A → B) (xs : List A) (y : B) : Type 0 where
  of : A
  there : Contains xs of
  is : f of ≡ y

image_later : {A B : Type 0} (f : A → B) (x : A) (xs : List A) (y : B) → IsImage f xs y → IsImage f (x ∷ xs) y
image_later f x xs y i = record { of = i.of; there = let at = i.there in (suc at.0, omega arith, at.2); is = i.is }

contained_in_map : {A B : Type 0} (f : A → B) (xs : List A) (y : B) → Contains (map f xs) y → IsImage f xs y
contained_in_map f [] y (k, low, is) = absurd (omega arith)
contained_in_map f (x ∷ xs) y (zero, low, is) = record { of = x; there = (0, omega arith, refl); is = is }
contained_in_map f (x ∷ xs) y (suc k, low, is) = image_later f x xs y (contained_in_map f xs y (k, omega arith, is))

all_map : {Z : Type 0} (path : List ℕ) (xs : List (String Z)) → AllByRecursion (λ x. slice_cmp nat_cmp path (string_bytes x) ≡ Less) xs
    → AllByRecursion (λ other. slice_cmp nat_cmp path other ≡ Less) (map string_bytes xs)
all_map path [] all = tt
all_map path (x ∷ xs) all = (all.0, all_map path xs all.1)

sorted_map : {Z : Type 0} (xs : List (String Z)) → IsStrictlySortedBy string_cmp xs → IsStrictlySortedBy (slice_cmp nat_cmp) (map string_bytes xs)
unfolding IsStrictlySortedBy
sorted_map [] in_order = tt
sorted_map (x ∷ xs) in_order = (all_map (string_bytes x) xs in_order.0, sorted_map xs in_order.1)

module _ {Z : Type 0} (each sorted kept : List (String Z)) (moved : IsPermutation each sorted) (is : kept ≡ dedup string_eq sorted) where
  keeps : (path : List ℕ) → Contains (map string_bytes each) path → Contains (map string_bytes kept) path
  keeps path there =
      let at = contained_in_map string_bytes each path there in
      let other = Any-dedup string_eq_equiv sorted at.of (Contains-permutation each sorted at.of moved at.there) in
      let same : string_bytes other.1 ≡ path = sym ((bytes_eq-Decides (string_bytes at.of) (string_bytes other.1)).0 other.4) ∙ at.is in
      subst (λ l. Contains (map string_bytes l) path) (sym is) (subst (Contains (map string_bytes (dedup string_eq sorted))) same
      (contains_map string_bytes (dedup string_eq sorted) other.1 (other.0, other.2, other.3)))

  adds_none : (path : List ℕ) → Contains (map string_bytes kept) path → Contains (map string_bytes each) path
  adds_none path there =
      let at = contained_in_map string_bytes kept path there in
      let before = Contains-permutation sorted each at.of (IsPermutation-sym each sorted moved) (Contains-from_dedup string_eq sorted at.of (subst (λ l. Contains l at.of) is at.there)) in
      subst (Contains (map string_bytes each)) at.is (contains_map string_bytes each at.of before)

  ascends : IsSorted string_cmp sorted → IsStrictlySortedBy (slice_cmp nat_cmp) (map string_bytes kept)
  ascends sorts = subst (λ l. IsStrictlySortedBy (slice_cmp nat_cmp) (map string_bytes l)) (sym is)
      (sorted_map (dedup string_eq sorted) (IsStrictlySortedBy-dedup string_cmp_total (λ x y. texts_ties (string_bytes x) (string_bytes y)) sorted sorts))

-- what a sort and a `dedup` leave
pub in_order : {Z : Type 0} (each sorted kept : List (String Z)) → IsPermutation each sorted → IsSorted string_cmp sorted
    → IsFiltered (DiffersFromLast string_eq) [] sorted kept → AreOnceInOrder (map string_bytes each) (map string_bytes kept)
in_order each sorted kept moved sorts filtered =
    let is = dedup_is string_eq sorted kept filtered in
    record { ascending = ascends each sorted kept moved is sorts; each_kept = keeps each sorted kept moved is; none_added = adds_none each sorted kept moved is }
