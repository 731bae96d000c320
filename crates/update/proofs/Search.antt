-- Sorted texts, among which one is sought that begins with a text.
use Rattle.std.proofs.Common.{◌≡◌, ◌∙◌, ◌<◌, ◌≤◌, ℕ, zero, suc, Bool, true, false, ◌&&◌, List, [], ◌∷◌, length, Bor, Ordering, refl, sym, ap, subst, arith, get_or, ◌⊎◌, inl, inr}
use Rattle.std.proofs.lemmas.Bool.Decides.{nat_tests}
use Rattle.std.proofs.lemmas.Cmp.{nat_list_cmp_total}
use Rattle.std.proofs.lemmas.List.{get_or-map, length-map}
use Rattle.std.proofs.lemmas.Option.{slice_get-get_or}
use Rattle.std.proofs.lemmas.Bool.{cases_lt}
use Rattle.std.proofs.lemmas.List.Folds.{list_any_at, list_any_none}
use Rattle.std.proofs.lemmas.List.Sorted.{ranks_by, sorted_far}
use Rattle.std.specs.Cmp.{IsStrictWeakOrder}
use Rattle.std.specs.Cmp.Lexicographic.{slice_cmp}
use Rattle.std.specs.List.{list_any, slice_get, starts_with}
use Rattle.std.specs.Option.{option_map_or}
use Rattle.std.specs.List.Sorted.{IsPartitionPoint, IsPartitionedBy, IsSorted}
use Rattle.std.specs.Ordering.{is_lt, nat_cmp, ordering_then}
use Rattle.std.specs.Prelude.{nat_eq}
use Rattle.update.specs.Stored.{begins_at, is_before, lent_texts}

texts_order : IsStrictWeakOrder (λ (x y : List ℕ). is_lt (slice_cmp nat_cmp x y))
texts_order = ranks_by nat_list_cmp_total (λ (x : List ℕ). x)

no_longer : (b c : Bool) → b ≡ true → (c ≡ false → b ≡ false) → c ≡ true
no_longer b true h f = refl
no_longer b false h f = absurd (cc (f refl))

-- what is before a text comes first
pub before_first : (start : List ℕ) (xs : List (Bor (List ℕ))) → IsSorted (λ a b. slice_cmp nat_cmp a.now b.now) xs → IsPartitionedBy (λ t. is_before start t.now) xs
before_first start xs up i j d upto inside h =
    let far = sorted_far (λ (a b : Bor (List ℕ)). is_lt (slice_cmp nat_cmp a.now b.now)) (ranks_by nat_list_cmp_total (λ (t : Bor (List ℕ)). t.now)) xs up i j d upto inside in
    no_longer (is_before start (get_or xs j d).now) (is_before start (get_or xs i d).now) h
    (λ no. texts_order.chain (get_or xs j d).now (get_or xs i d).now start far no)

-- neither of two numbers is above the other
neither : (c d : ℕ) (o p : Ordering) → is_lt (ordering_then (nat_cmp d c) o) ≡ false → is_lt (ordering_then (nat_cmp c d) p) ≡ false → (c ≡ d) × ((is_lt o ≡ false) × (is_lt p ≡ false))
neither c d o p a b = grind (arith, nat_tests)

both : (a b : Bool) → (a && b) ≡ true → (a ≡ true) × (b ≡ true)
both true true h = (refl, refl)
both true false h = absurd (cc)
both false b h = absurd (cc)

-- what is before a text doesn't begin with it
before_apart : (s t : List ℕ) → is_before s t ≡ true → starts_with nat_eq t s ≡ false
before_apart [] [] h = absurd (cc)
before_apart [] (d ∷ t) h = absurd (cc)
before_apart (c ∷ s) [] h = refl
before_apart (c ∷ s) (d ∷ t) h = let more = before_apart s t in grind (arith, nat_tests)

-- what is between a text and one that begins with it begins with it too
between : (s t u : List ℕ) → is_before s t ≡ false → is_lt (slice_cmp nat_cmp u t) ≡ false → starts_with nat_eq u s ≡ true → starts_with nat_eq t s ≡ true
between [] t u a b h = refl
between (c ∷ s) t [] a b h = absurd (cc)
between (c ∷ s) [] (e ∷ u) a b h = absurd (cc)
between (c ∷ s) (d ∷ t) (e ∷ u) a b h = let more = between s t u in grind (arith, nat_tests)

-- a test of the element at an index
found_at : (p : List ℕ → Bool) (texts : List (List ℕ)) (i : ℕ) → option_map_or p (slice_get texts i) false ≡ true → (i < length texts) × (p (get_or texts i []) ≡ true)
found_at p [] i h = absurd (cc)
found_at p (t ∷ texts) zero h = (omega arith, h)
found_at p (t ∷ texts) (suc i) h = let more = found_at p texts i h in (omega arith, more.1)

not_at : (p : List ℕ → Bool) (texts : List (List ℕ)) (i : ℕ) → i < length texts → option_map_or p (slice_get texts i) false ≡ p (get_or texts i [])
not_at p texts i inside = ap (λ o. option_map_or p o false) (slice_get-get_or texts i [] inside)

module _ (start : List ℕ) (xs : List (Bor (List ℕ))) (i : ℕ) (up : IsSorted (λ a b. slice_cmp nat_cmp a.now b.now) xs)
    (first : IsPartitionPoint (λ t. is_before start t.now ≡ true) (λ t. is_before start t.now ≡ false) xs i) where
  abbrev pub begins : List ℕ → Bool
  begins other = starts_with nat_eq other start

  no_begin : (b : Bool) → (b ≡ true → ⊥) → b ≡ false
  no_begin true h = absurd (h refl)
  no_begin false h = refl

  -- if the first one that isn't before the text doesn't begin with it, none does
  none_begins : begins_at start (lent_texts xs) i ≡ false → (k : ℕ) (d : Bor (List ℕ)) → k < length xs → begins (get_or xs k d).now ≡ false
  none_begins none k d inside = by (cases_lt k i)
    where
      there : i < length xs → begins (get_or xs i d).now ≡ false
      there within =
          let at : i < length (lent_texts xs) = subst (λ n. i < n) (sym (length-map xs (λ (t : Bor (List ℕ)). t.now))) within in
          ap begins (sym (get_or-map (λ (t : Bor (List ℕ)). t.now) xs i d [] within)) ∙ sym (not_at begins (lent_texts xs) i at) ∙ none

      by : (k < i) ⊎ (i ≤ k) → begins (get_or xs k d).now ≡ false
      by (inl below) = before_apart start (get_or xs k d).now (first.0 k d (omega arith) below)
      by (inr above) =
          let within : i < length xs = omega arith in
          let far = sorted_far (λ (a b : Bor (List ℕ)). is_lt (slice_cmp nat_cmp a.now b.now)) (ranks_by nat_list_cmp_total (λ (t : Bor (List ℕ)). t.now)) xs up i k d above inside in
          no_begin (begins (get_or xs k d).now) (λ yes. let also = between start (get_or xs i d).now (get_or xs k d).now (first.1 i d (omega arith) within) far yes in absurd (cc (there within)))

  -- the first one that isn't before the text tells whether one begins with it
  pub is_found : begins_at start (lent_texts xs) i ≡ list_any begins (lent_texts xs)
  is_found = by (begins_at start (lent_texts xs) i) refl
    where
      by : (b : Bool) → begins_at start (lent_texts xs) i ≡ b → b ≡ list_any begins (lent_texts xs)
      by true is = let at = found_at begins (lent_texts xs) i is in sym (list_any_at begins (lent_texts xs) i [] at.0 at.1)
      by false is = sym (list_any_none begins (lent_texts xs) (λ k d inside.
          let within : k < length xs = subst (λ n. k < n) (length-map xs (λ (t : Bor (List ℕ)). t.now)) inside in
          let blank : Bor (List ℕ) = record { ref_ptr = (0, 0); now = [] } in
          ap begins (get_or-map (λ (t : Bor (List ℕ)). t.now) xs k blank d within) ∙ none_begins is k blank within))
