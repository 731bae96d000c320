-- What a binary search finds among items whose names ascend.
use Rattle.std.proofs.Common.{arith, ℕ, ◌+◌, ◌<◌, ◌≡◌, ◌∙◌, ap, sym, refl, suc, zero, false, Bool, List, [], ◌∷◌, length, get_or, Some, None, Less, Equal, Greater, Ordering, bytes_eq, nat_cmp, add-one, ⊎_elim}
use Rattle.std.specs.Prelude.{find}
use Rattle.std.specs.Cmp.Lexicographic.{slice_cmp}
use Rattle.std.specs.List.{HoldsAt, AllWithin, slice_get}
use Rattle.std.specs.List.Sorted.{IsSortedBy, IsPartitionPoint, IsNonDecreasingBy}
use Rattle.std.specs.Ordering.{is_eq, is_lt, ordering_index, ordering_reverse}
use Rattle.std.proofs.lemmas.Bool.{cases_lt}
use Rattle.std.proofs.lemmas.Cmp.{nat_list_cmp_total, alike_right}
use Rattle.std.proofs.lemmas.List.Folds.{find_at}
use Rattle.std.proofs.lemmas.List.Sorted.{searchable_from_sorted}
use Rattle.std.proofs.lemmas.List.Sums.{position_or_len_is}
use Rattle.std.proofs.lemmas.Map.Text.{is_eq-slice_cmp}
use Rattle.std.proofs.lemmas.Option.{slice_get_read}
use Rattle.meta.specs.Catalog.{Ascend}

-- a test that fails at each place finds nothing
none_passes : {A : Type 0} (p : A → Bool) (items : List A) → AllWithin (λ a. p a ≡ false) items 0 (length items) → find p items ≡ None
none_passes p [] fails = refl
none_passes p (a ∷ items) fails =
    rw (fails 0 a (omega arith) (omega arith)) (none_passes p items (λ k d low high. fails (suc k) d (omega arith) (omega arith)))

-- texts are equal if they compare as equal
equal_as : (xs ys : List ℕ) (o : Ordering) → slice_cmp nat_cmp xs ys ≡ o → bytes_eq xs ys ≡ is_eq o
equal_as xs ys o is = sym (is_eq-slice_cmp xs ys) ∙ ap is_eq is

module _ {A : Type 0} (name : A → List ℕ) (items : List A) (ascends : Ascend name items) where
  abbrev name_at : ℕ → A → List ℕ
  name_at k d = name (get_or items k d)

  -- each name is below all that follow
  below : (i j : ℕ) (d : A) → i < j → j < length items → slice_cmp nat_cmp (name_at i d) (name_at j d) ≡ Less
  below i zero d less high = absurd (omega arith)
  below i (suc j) d less high =
      let next = rw add-one at (ascends j d (omega arith)) in
      ⊎_elim
      (λ lower. nat_list_cmp_total.trans (name_at i d) (name_at j d) (name_at (suc j) d) (below i j d lower (omega arith)) next)
      (λ from. let same : i ≡ j = omega arith in rw same next)
      (cases_lt i j)

  sorted : IsSortedBy (λ a b. is_lt (slice_cmp nat_cmp (name a) (name b))) items
  sorted k d low high =
      ap is_lt (nat_list_cmp_total.antisymm (name_at (k + 1) d) (name_at k d) ∙ ap ordering_reverse (ascends k d high))

  module _ (text : List ℕ) where
    -- the comparisons of the names with a text are in order, as a binary search requires
    pub comparisons_rise : IsNonDecreasingBy (λ a. ordering_index (slice_cmp nat_cmp (name a) text)) items
    comparisons_rise = searchable_from_sorted nat_list_cmp_total name items text sorted

    -- an item whose name is the text is the first such item
    pub found_at : (i : ℕ) (a : A) → i < length items → HoldsAt (λ b. slice_cmp nat_cmp (name b) text ≡ Equal) items i → a ≡ get_or items i a
        → find (λ b. bytes_eq (name b) text) items ≡ Some a
    found_at i a high here is =
        let test = λ (b : A). bytes_eq (name b) text in
        let other : (k : ℕ) → k < i → test (get_or items k a) ≡ false = λ k less.
        equal_as _ text Less (sym (alike_right nat_list_cmp_total (name_at i a) text (name_at k a) (here a)) ∙ below k i a less high) in
        let first = position_or_len_is test items i a (omega arith) other (λ inside. equal_as (name_at i a) text Equal (here a)) in
        find_at test items ∙ ap (slice_get items) first ∙ slice_get_read items _ i a refl high is

    -- no item has the text as its name if each name is below or above it
    pub found_none : (i : ℕ) → IsPartitionPoint (λ b. slice_cmp nat_cmp (name b) text ≡ Less) (λ b. slice_cmp nat_cmp (name b) text ≡ Greater) items i
        → find (λ b. bytes_eq (name b) text) items ≡ None
    found_none i parts = none_passes (λ b. bytes_eq (name b) text) items (λ k d low high. ⊎_elim
        (λ less. equal_as (name_at k d) text Less (parts.0 k d low less))
        (λ from. equal_as (name_at k d) text Greater (parts.1 k d from high))
        (cases_lt k i))
