-- One more check in a plan's index.
use Rattle.std.proofs.Common.{◌≡◌, ◌∷◌, ◌++◌, ◌∙◌, ◌⊎◌, inl, inr, zero, suc, ℕ, List, [], Bool, true, false, Some, None, length, slice_get, sym, ap, subst, refl}
use Rattle.std.proofs.lemmas.Option.{none-some, same_Some}
use Rattle.std.specs.BTreeMap.{BTreeMap, is_at, Updates}
use Rattle.std.specs.Cmp.{Equal-is}
use Rattle.std.specs.FinSet.{nat_cmp-IsAntisymmetric, slice_cmp-IsAntisymmetric}
use Rattle.std.specs.Ordering.{nat_cmp}
use Rattle.std.specs.Cmp.Lexicographic.{slice_cmp}
use Rattle.plan.specs.Questions.{Question, IsIndex, IsDistinct, at, mark}

abbrev Index : Type 0
Index = BTreeMap (List ℕ) ℕ

-- ---- one element more in a list

before : {A : Type 0} (xs : List A) (x : A) (j : ℕ) (y : A) → slice_get xs j ≡ Some y → slice_get (xs ++ x ∷ []) j ≡ Some y
before [] x j y h = absurd (none-some _ h)
before (z ∷ zs) x zero y h = h
before (z ∷ zs) x (suc j) y h = before zs x j y h

last : {A : Type 0} (xs : List A) (x : A) → slice_get (xs ++ x ∷ []) (length xs) ≡ Some x
last [] x = refl
last (z ∷ zs) x = last zs x

cases : {A : Type 0} (xs : List A) (x : A) (j : ℕ) (y : A) → slice_get (xs ++ x ∷ []) j ≡ Some y → (slice_get xs j ≡ Some y) ⊎ ((j ≡ length xs) × (x ≡ y))
cases [] x zero y h = inr (refl, same_Some _ _ h)
cases [] x (suc j) y h = absurd (none-some _ h)
cases (z ∷ zs) x zero y h = inl h
cases (z ∷ zs) x (suc j) y h = elim (cases zs x j y h) [
  | inl there ↦ inl there
  | inr end ↦ inr (ap (λ n. suc n) end.0, end.1)
]

-- ---- one key more in a map

tie : (k q : List ℕ) → is_at (slice_cmp nat_cmp k) q ≡ true → k ≡ q
tie k q h = slice_cmp-IsAntisymmetric nat_cmp-IsAntisymmetric k q ((Equal-is (slice_cmp nat_cmp k q)).0 h)

-- what was there stays
stays_by : (m n : Index) (k : List ℕ) (j : ℕ) → at m.entries k ≡ None → Updates (slice_cmp nat_cmp) m n k (Some j) → (q : List ℕ) (i : ℕ) → at m.entries q ≡ Some i
    → (b : Bool) → is_at (slice_cmp nat_cmp k) q ≡ b → at n.entries q ≡ Some i
stays_by m n k j new put q i was true here = absurd (none-some _ (sym new ∙ ap (at m.entries) (tie k q here) ∙ was))
stays_by m n k j new put q i was false away = put.2 q away ∙ was

stays : (m n : Index) (k : List ℕ) (j : ℕ) → at m.entries k ≡ None → Updates (slice_cmp nat_cmp) m n k (Some j) → (q : List ℕ) (i : ℕ) → at m.entries q ≡ Some i → at n.entries q ≡ Some i
stays m n k j new put q i was = stays_by m n k j new put q i was (is_at (slice_cmp nat_cmp k) q) refl

-- ---- one more check

found_more : (qs : List Question) (q : Question) (m n : Index) → IsIndex qs m.entries → at m.entries (mark q) ≡ None → Updates (slice_cmp nat_cmp) m n (mark q) (Some (length qs))
    → (j : ℕ) (r : Question) → slice_get (qs ++ q ∷ []) j ≡ Some r → at n.entries (mark r) ≡ Some j
found_more qs q m n was new put j r there = elim (cases qs q j r there) [
  | inl old ↦ stays m n (mark q) (length qs) new put (mark r) j (was.found j r old)
  | inr end ↦ ap (λ x. at n.entries (mark x)) (sym end.1) ∙ put.1 ∙ ap Some (sym end.0)
]

named_by : (qs : List Question) (q : Question) (m n : Index) → IsIndex qs m.entries → Updates (slice_cmp nat_cmp) m n (mark q) (Some (length qs))
    → (k : List ℕ) (j : ℕ) → at n.entries k ≡ Some j → (b : Bool) → is_at (slice_cmp nat_cmp (mark q)) k ≡ b
    → (r : Question) × (slice_get (qs ++ q ∷ []) j ≡ Some r) × (mark r ≡ k)
named_by qs q m n was put k j there true here =
    let same : mark q ≡ k = tie (mark q) k here in
    let place : length qs ≡ j = same_Some _ _ (sym put.1 ∙ ap (at n.entries) same ∙ there) in
    (q, subst (λ i. slice_get (qs ++ q ∷ []) i ≡ Some q) place (last qs q), same)
named_by qs q m n was put k j there false away =
    let old : (r : Question) × (slice_get qs j ≡ Some r) × (mark r ≡ k) = was.named k j (sym (put.2 k away) ∙ there) in
    (old.0, before qs q j old.0 old.1, old.2)

pub index_more : (qs : List Question) (q : Question) (m n : Index) → IsIndex qs m.entries → at m.entries (mark q) ≡ None → Updates (slice_cmp nat_cmp) m n (mark q) (Some (length qs))
    → IsIndex (qs ++ q ∷ []) n.entries
index_more qs q m n was new put = record {
  found = found_more qs q m n was new put;
  named = λ k j there. named_by qs q m n was put k j there (is_at (slice_cmp nat_cmp (mark q)) k) refl;
}

pub index_kept : (qs : List Question) (m n : Index) → IsIndex qs m.entries → n.entries ≡ m.entries → IsIndex qs n.entries
index_kept qs m n was same = subst (IsIndex qs) (sym same) was

pub index_empty : (m : Index) → m.entries ≡ [] → IsIndex [] m.entries
index_empty m none = record {
  found = λ j q there. absurd (none-some _ there);
  named = λ k j there. absurd (none-some _ (subst (λ es. at es k ≡ Some j) none there));
}

pub distinct : (qs : List Question) (m : Index) → IsIndex qs m.entries → IsDistinct qs
distinct qs m was i j q at_i at_j = same_Some _ _ (sym (was.found i q at_i) ∙ was.found j q at_j)
