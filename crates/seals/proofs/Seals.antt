-- Signed files: their text, and their entries one by one.
use Rattle.std.proofs.Common.{◌≡◌, ◌≢◌, ◌↔◌, ℕ, ◌+◌, ◌<◌, ◌≤◌, ◌&&◌, ◌++◌, List, [], ◌∷◌, length, get_or, set, take, map, fold, Bool, true, false, ◌⊎◌, inl, inr, ⊎_elim, Result, Ok, Err, OnErr, IsErrAnd, Some, None, slice_get, is_some, option_map, IsSome, refl, sym, subst, ap, ap₂, ◌∙◌, arith, true≢false, if◌then◌else◌}
use Rattle.std.specs.List.{AllZip}
use Rattle.std.proofs.Math.Seq.{map-set_same, take-length}
use Rattle.std.proofs.lemmas.List.{take_more, map-set, get_or-map}
use Rattle.std.proofs.lemmas.List.Sums.{fold-append}
use Rattle.std.proofs.lemmas.Bool.{cases_eq}
use Rattle.std.proofs.lemmas.Option.{same_Some, slice_get-get_or, slice_get-map}
use Rattle.serde_json.specs.Data.{Data, Items, no_items, item}
use Rattle.serde_json.specs.View.{view, items_view}
use Rattle.serde_json.specs.declared.value.Value.{Value}
use Rattle.cjson.specs.Canon.{canon, has_whole_numbers, items_are_whole, is_ordered, items_are_ordered}
use Rattle.cjson.specs.declared.doc.Entry.{Entry}
use Rattle.cjson.proofs.OnLiterals.{cjson_on_literals}
use Rattle.seals.specs.declared.fault.MakeFault.{MakeFault}
use Rattle.seals.specs.declared.fault.MakeFault.TheVariants.{Used, NoMemory, Script}
use Rattle.seals.specs.declared.signer.Signer.{Signer}
use Rattle.seals.specs.Sealed.{Holder, HasSpent, IsSignedAt, IsSignedBy, IsUsedUp, IsUsedUpAt, entry_object, entry_objects, holder, sealed, spend, unused, used_of}

-- ---- the file has a text

entries_whole : (es : List Entry) → items_are_whole (entry_objects es) ≡ true
entries_whole [] = refl
entries_whole (e ∷ es) = entries_whole es

entries_ordered : (es : List Entry) → items_are_ordered (entry_objects es) ≡ true
unfolding cjson_on_literals
entries_ordered [] = refl
entries_ordered (e ∷ es) = entries_ordered es

file_whole : (d : Data) (es : List Entry) → has_whole_numbers d ≡ true → has_whole_numbers (sealed d es) ≡ true
file_whole d es whole = rw (entries_whole es, whole)

file_ordered : (d : Data) (es : List Entry) → is_ordered d ≡ true → is_ordered (sealed d es) ≡ true
unfolding cjson_on_literals
file_ordered d es ordered = rw (entries_ordered es, ordered)

both_true : (a b : Bool) (s : List ℕ) → is_some (if a && b then Some s else None) ≡ true → (a ≡ true) × (b ≡ true)
both_true true true s h = (refl, refl)
both_true true false s h = absurd (true≢false (sym h))
both_true false b s h = absurd (true≢false (sym h))

-- a file has a canonical text if its value has one
pub IsSome-canon-sealed : (d file : Data) (es : List Entry) → IsSome (canon d) → file ≡ sealed d es → IsSome (canon file)
IsSome-canon-sealed d file es has is =
    let parts = both_true (has_whole_numbers d) (is_ordered d) _ has in
    rw (is, file_whole d es parts.0, file_ordered d es parts.1)

-- ---- one more entry

items_then : Items → Data → Items
items_then no_items d = item d no_items
items_then (item x xs) d = item x (items_then xs d)

items_view-push : (vs : List Value) (v : Value) → items_view (vs ++ v ∷ []) ≡ items_then (items_view vs) (view v)
unfolding items_then
items_view-push [] v = refl
items_view-push (x ∷ vs) v = ap (item (view x)) (items_view-push vs v)

entry_objects-push : (es : List Entry) (e : Entry) → entry_objects (es ++ e ∷ []) ≡ items_then (entry_objects es) (entry_object e)
unfolding items_then
entry_objects-push [] e = refl
entry_objects-push (x ∷ es) e = ap (item (entry_object x)) (entry_objects-push es e)

view-push : (vs : List Value) (v : Value) (es : List Entry) (e : Entry) → items_view vs ≡ entry_objects es → view v ≡ entry_object e
    → items_view (vs ++ v ∷ []) ≡ entry_objects (es ++ e ∷ [])
view-push vs v es e done here = items_view-push vs v ∙ ap₂ items_then done here ∙ sym (entry_objects-push es e)

AllZip-push : {A B : Type 0} (R : A → B → Type 0) (xs : List A) (ys : List B) (x : A) (y : B) → AllZip R xs ys → R x y
    → AllZip R (xs ++ x ∷ []) (ys ++ y ∷ [])
AllZip-push R [] [] x y h r = (r, tt)
AllZip-push R [] (z ∷ ys) x y h r = absurd h
AllZip-push R (w ∷ xs) [] x y h r = absurd h
AllZip-push R (w ∷ xs) (z ∷ ys) x y h r = (h.0, AllZip-push R xs ys x y h.1 r)

-- the entries so far and one more
pub entries_more : (hs : List Holder) (by text : List ℕ) (i : ℕ) (vs : List Value) (es : List Entry) (v : Value) (e : Entry) (h : Holder)
    → i < length by → slice_get hs (get_or by i 0) ≡ Some h
    → items_view vs ≡ entry_objects es → AllZip (IsSignedAt hs text) (take i by) es
    → view v ≡ entry_object e → IsSignedBy h text e
    → (more : List Entry) × (items_view (vs ++ v ∷ []) ≡ entry_objects more) × AllZip (IsSignedAt hs text) (take (i + 1) by) more
entries_more hs by text i vs es v e h within at done signed is by_h =
    let pushed : AllZip (IsSignedAt hs text) (take i by ++ get_or by i 0 ∷ []) (es ++ e ∷ []) =
    AllZip-push (IsSignedAt hs text) (take i by) es (get_or by i 0) e signed (h, at, by_h) in
    let all : AllZip (IsSignedAt hs text) (take (i + 1) by) (es ++ e ∷ []) = rw (take_more by i 0 within) pushed in
    (es ++ e ∷ [], view-push vs v es e done is, all)

-- ---- the signers

holders_of_unused : (ss : List Signer) → map holder (map unused ss) ≡ map holder ss
holders_of_unused [] = refl
holders_of_unused (s ∷ ss) = ap (λ hs. holder s ∷ hs) (holders_of_unused ss)

holders_same : (first ss : List Signer) → map unused ss ≡ map unused first → map holder ss ≡ map holder first
holders_same first ss kept = sym (holders_of_unused ss) ∙ ap (map holder) kept ∙ holders_of_unused first

-- the holder at a place, whoever signed before
pub holder_at : (first ss : List Signer) (p : ℕ) (d : Signer) → p < length ss → map unused ss ≡ map unused first
    → slice_get (map holder first) p ≡ Some (holder (get_or ss p d))
holder_at first ss p d within kept =
    ap (λ hs. slice_get hs p) (sym (holders_same first ss kept)) ∙ slice_get-map holder ss p ∙ ap (option_map holder) (slice_get-get_or ss p d within)

-- an entry's signer keeps its id and its key, so all do
pub signers_kept : (first ss : List Signer) (p : ℕ) (d t : Signer) → unused t ≡ unused (get_or ss p d) → map unused ss ≡ map unused first
    → map unused (set ss p t) ≡ map unused first
signers_kept first ss p d t kept so_far = map-set_same unused ss p t d kept ∙ so_far

-- a signer of the places takes one more leaf
pub leaves_more : (first ss : List Signer) (by : List ℕ) (i : ℕ) (d t : Signer) → i < length by → get_or by i 0 < length ss
    → used_of t ≡ used_of (get_or ss (get_or by i 0) d) + 1 → map used_of ss ≡ fold spend (map used_of first) (take i by)
    → map used_of (set ss (get_or by i 0) t) ≡ fold spend (map used_of first) (take (i + 1) by)
leaves_more first ss by i d t within there one so_far =
    let p = get_or by i 0 in
    let count : used_of t ≡ get_or (map used_of ss) p 0 + 1 = one ∙ ap (λ n. n + 1) (sym (get_or-map used_of ss p d 0 there)) in
    let here : map used_of (set ss p t) ≡ spend (map used_of ss) p = map-set used_of ss p t ∙ ap (set (map used_of ss) p) count in
    here ∙ ap (λ counts. spend counts p) so_far
    ∙ sym (ap (fold spend (map used_of first)) (take_more by i 0 within) ∙ fold-append spend (map used_of first) (take i by) (p ∷ []))

-- ---- a signer that has no leaf left

-- none of the first places came to a signer without a leaf
abbrev pub NoneUsedUp : List Signer → List ℕ → ℕ → Type 0
NoneUsedUp first by i = (k : ℕ) → k < i → IsUsedUpAt first by k → ⊥

-- the count at a place, whoever signed before
count_at : (first ss : List Signer) (by : List ℕ) (i : ℕ) (d : Signer) → get_or by i 0 < length ss
    → map used_of ss ≡ fold spend (map used_of first) (take i by)
    → get_or (fold spend (map used_of first) (take i by)) (get_or by i 0) 0 ≡ used_of (get_or ss (get_or by i 0) d)
count_at first ss by i d there leaves =
    ap (λ counts. get_or counts (get_or by i 0) 0) (sym leaves) ∙ get_or-map used_of ss (get_or by i 0) d 0 there

-- a signer without a leaf left, when it is its turn
pub used_up_at : (first ss : List Signer) (by : List ℕ) (i : ℕ) (d : Signer) → i < length by → get_or by i 0 < length ss
    → used_of (get_or ss (get_or by i 0) d) ≡ (holder (get_or ss (get_or by i 0) d)).leaves → map unused ss ≡ map unused first
    → map used_of ss ≡ fold spend (map used_of first) (take i by) → IsUsedUp first by
used_up_at first ss by i d within there spent kept leaves = (
  i,
  record {
    within = within;
    h = holder (get_or ss (get_or by i 0) d);
    at = holder_at first ss (get_or by i 0) d there kept;
    used = count_at first ss by i d there leaves ∙ spent;
  },
)

-- one place more, at which the signer had a leaf left
pub none_more : (first ss : List Signer) (by : List ℕ) (i : ℕ) (d : Signer) → get_or by i 0 < length ss
    → (used_of (get_or ss (get_or by i 0) d) ≡ (holder (get_or ss (get_or by i 0) d)).leaves → ⊥) → map unused ss ≡ map unused first
    → map used_of ss ≡ fold spend (map used_of first) (take i by) → NoneUsedUp first by i → NoneUsedUp first by (i + 1)
none_more first ss by i d there had kept leaves before k less u =
    ⊎_elim (λ (e : k ≡ i). had (here (subst (IsUsedUpAt first by) e u))) (λ (ne : k ≡ i → ⊥). before k (omega arith) u) (cases_eq k i)
  where
    here : IsUsedUpAt first by i → used_of (get_or ss (get_or by i 0) d) ≡ (holder (get_or ss (get_or by i 0) d)).leaves
    here at_i =
        let same : at_i.h ≡ holder (get_or ss (get_or by i 0) d) = same_Some _ _ (sym at_i.at ∙ holder_at first ss (get_or by i 0) d there kept) in
        sym (count_at first ss by i d there leaves) ∙ at_i.used ∙ ap (λ (h : Holder). h.leaves) same

-- none of all places came to a signer without a leaf
pub never_used_up : (first : List Signer) (by : List ℕ) (i : ℕ) → length by ≤ i → NoneUsedUp first by i → IsUsedUp first by → ⊥
never_used_up first by i all none (k, u) = let within = u.within in none k (omega arith) u

-- no success is an error
pub ok_err : {A E : Type 0} (x : A) (e : E) → ◌≡◌ {A = Result A E} (Ok x) (Err e) → ⊥
ok_err x e is = subst (λ r. OnErr r ⊥) is tt

-- a success
pub used_unless : {A : Type 0} (x : A) (P : Type 0) → (P → ⊥) → (◌≡◌ {A = Result A MakeFault} (Ok x) (Err Used)) ↔ P
used_unless x P not = ((λ e. absurd (ok_err x Used e)), λ p. absurd (not p))

-- an error that isn't of a script
pub used_if : {A : Type 0} (r : Result A MakeFault) (f : MakeFault) (P : Type 0) → IsErrAnd r (λ e. e ≡ f) → ((line : ℕ) → f ≢ Script line) → (f ≡ Used → P)
    → r ≢ Err NoMemory → (r ≡ Err Used) ↔ P
used_if (Ok x) f P is plain holds _ = absurd is
used_if (Err Used) f P is plain holds _ = ((λ _. holds (sym is)), λ _. refl)
used_if (Err NoMemory) f P is plain holds other = absurd (other refl)
used_if (Err (Script line)) f P is plain holds _ = absurd (plain line (sym is))

-- ---- on error

on_err : {A E : Type 0} (r : Result A E) (P : Type 0) → P → OnErr r P
on_err (Ok x) P p = tt
on_err (Err e) P p = p

-- some first places took their leaves
pub spent_first : {A E : Type 0} (r : Result A E) (by old new : List ℕ) (n : ℕ) → new ≡ fold spend old (take n by) → OnErr r (HasSpent by old new)
spent_first r by old new n is = on_err r (HasSpent by old new) (n, is)

-- all places did
pub spent_all : {A E : Type 0} (r : Result A E) (by old new : List ℕ) → new ≡ fold spend old by → OnErr r (HasSpent by old new)
spent_all r by old new is = spent_first r by old new (length by) (is ∙ ap (fold spend old) (sym (take-length by)))

-- the place at which it failed took its leaf, or didn't
pub spent_or_not : {A E : Type 0} (r : Result A E) (first ss : List Signer) (by : List ℕ) (i : ℕ) (d t : Signer) → i < length by → get_or by i 0 < length ss
    → (used_of t ≡ used_of (get_or ss (get_or by i 0) d)) ⊎ (used_of t ≡ used_of (get_or ss (get_or by i 0) d) + 1)
    → map used_of ss ≡ fold spend (map used_of first) (take i by)
    → OnErr r (HasSpent by (map used_of first) (map used_of (set ss (get_or by i 0) t)))
spent_or_not r first ss by i d t within there (inl none) so_far =
    spent_first r by _ _ i (map-set_same used_of ss (get_or by i 0) t d none ∙ so_far)
spent_or_not r first ss by i d t within there (inr one) so_far =
    spent_first r by _ _ (i + 1) (leaves_more first ss by i d t within there one so_far)
