-- There is a reason why an id has no usable key exactly if the ring of the object has none.
use Rattle.std.proofs.Common.{◌≡◌, ℕ, ◌&&◌, Bool, true, false, cond, not, List, [], ◌∷◌, Option, Some, None, is_some, option_and_then, if◌then◌else◌, Ordering, Less, Equal, Greater, nat_cmp, bytes_eq, refl, sym, ap, ◌∙◌, true≢false}
use Rattle.std.specs.Prelude.{filter_map, find}
use Rattle.std.specs.Option.{option_map_or}
use Rattle.std.specs.Cmp.Lexicographic.{slice_cmp, nat_list_cmp_total}
use Rattle.std.specs.Ordering.{is_eq, match_ordering}
use Rattle.std.proofs.lemmas.Bool.{and_parts}
use Rattle.std.proofs.lemmas.Bool.Decides.{same_from_decides, Decides-like}
use Rattle.std.proofs.lemmas.Map.Text.{is_eq-slice_cmp}
use Rattle.std.proofs.lemmas.Option.{none-some, same_Some}
use Rattle.std.proofs.lemmas.Slice.Eq.{bytes_eq-Decides}
use Rattle.serde_json.specs.Data.{Data, object, Members, no_members, member}
use Rattle.serde_json.specs.Find.{as_object, get, get_member}
use Rattle.cjson.specs.Canon.{comes_before, is_ordered, members_are_ordered}
use Rattle.cjson.specs.Form.{◌>>=◌, each_member, guard}
use Rattle.keys.specs.Keys.{is_lms, is_own_id, listed_key, public_value, ring, usable}
use Rattle.keys.specs.declared.key.Key.{Key}
use Rattle.signing.specs.Signers.{IsReasoned, key_of, key_type, unusable, unusable_key, why_not_key}
use Rattle.signing.specs.declared.unusable.Unusable.{Unusable}
use Rattle.signing.specs.declared.unusable.Unusable.TheVariants as why

-- ---- the checks of one key

by-parts : (lms own : Bool) (public : Option (List ℕ)) (t : Unusable) (key : List ℕ → Key)
    → (if not lms then Some t else if not (is_some public) then Some why.Kind else if not own then Some why.Id else None)
    ≡ option_map_or (λ _. None) (public >>= λ p. guard lms >>= λ l. guard own >>= λ o. Some (key p)) (Some (if not lms then t else if not (is_some public) then why.Kind else why.Id))
by-parts true true (Some p) t key = refl
by-parts true false (Some p) t key = refl
by-parts true own None t key = refl
by-parts false own (Some p) t key = refl
by-parts false own None t key = refl

at-key : (id : List ℕ) (o : Option Data)
    → option_map_or (why_not_key id) o (Some why.Absent) ≡ option_map_or (λ _. None) (option_and_then (usable id) o) (Some (option_map_or unusable_key o why.Absent))
at-key id None = refl
at-key id (Some key) = by-parts (is_lms key) (is_own_id id key) (public_value key) (why.Type (key_type key)) (λ p. record { id = id; public = p })

-- ---- a usable key has the id under which it is

pub bound : {A B : Type 0} (o : Option A) (f : A → Option B) (b : B) → (o >>= f) ≡ Some b → (a : A) × (o ≡ Some a) × (f a ≡ Some b)
bound (Some a) f b h = (a, refl, h)
bound None f b h = absurd (none-some b h)

id-parts : (lms own : Bool) (public : Option (List ℕ)) (k : List ℕ) (key : Key)
    → (public >>= λ p. guard lms >>= λ l. guard own >>= λ o. Some (record { id = k; public = p })) ≡ Some key → key.id ≡ k
id-parts true true (Some p) k key e = sym (ap (λ (x : Key). x.id) (same_Some (record { id = k; public = p }) key e))
id-parts true false (Some p) k key e = absurd (none-some key e)
id-parts false own (Some p) k key e = absurd (none-some key e)
id-parts lms own None k key e = absurd (none-some key e)

id-usable : (k : List ℕ) (d : Data) (key : Key) → usable k d ≡ Some key → key.id ≡ k
id-usable k d key e = id-parts (is_lms d) (is_own_id k d) (public_value d) k key e

-- ---- names that ascend

less-of : (o : Ordering) → match_ordering o true false false ≡ true → o ≡ Less
less-of Less h = refl
less-of Equal h = absurd (true≢false (sym h))
less-of Greater h = absurd (true≢false (sym h))

before-more : (id l : List ℕ) (ms : Members) → slice_cmp nat_cmp id l ≡ Less → comes_before l ms ≡ true → comes_before id ms ≡ true
before-more id l no_members h b = refl
before-more id l (member m d ms) h b = ap (λ c. match_ordering c true false false) (nat_list_cmp_total.trans id l m h (less-of _ b))

below-none : (id : List ℕ) (ms : Members) → comes_before id ms ≡ true → members_are_ordered ms ≡ true → get_member id ms ≡ None
below-none id no_members b o = refl
below-none id (member l e ms) b o =
    let less = less-of (slice_cmp nat_cmp id l) b in
    let parts = and_parts _ _ o in
    ap (λ c. match_ordering c (get_member id ms) (Some e) (get_member id ms)) less
    ∙ below-none id ms (before-more id l ms less parts.0) (and_parts _ _ parts.1).1

turned : (a b : List ℕ) → bytes_eq a b ≡ bytes_eq b a
turned a b = same_from_decides _ _ (bytes_eq-Decides a b) (Decides-like _ sym sym (bytes_eq-Decides b a))

same-by : (id l : List ℕ) (o : Ordering) → slice_cmp nat_cmp id l ≡ o → bytes_eq l id ≡ is_eq o
same-by id l o h = turned l id ∙ sym (is_eq-slice_cmp id l) ∙ ap is_eq h

-- ---- the key of an id in a ring

abbrev first-of : List ℕ → List (Option Key) → Option Key
first-of id ks = find (λ key. bytes_eq key.id id) (filter_map (λ key. key) ks)

first-at : (id : List ℕ) (key : Key) (ks : List (Option Key)) (b : Bool) → bytes_eq key.id id ≡ b → first-of id (Some key ∷ ks) ≡ cond b (Some key) (first-of id ks)
first-at id key ks b h = rw h refl

ring-step : (o : Ordering) (id l : List ℕ) (d : Data) (ms : Members) (u : Option Key) (ks : List (Option Key)) → slice_cmp nat_cmp id l ≡ o → usable l d ≡ u
    → (slice_cmp nat_cmp id l ≡ Equal → get_member id ms ≡ None) → first-of id ks ≡ option_and_then (usable id) (get_member id ms)
    → first-of id (u ∷ ks) ≡ option_and_then (usable id) (match_ordering o (get_member id ms) (Some d) (get_member id ms))
ring-step Less id l d ms (Some key) ks h is alone rest = first-at id key ks false (ap (λ k. bytes_eq k id) (id-usable l d key is) ∙ same-by id l Less h) ∙ rest
ring-step Less id l d ms None ks h is alone rest = rest
ring-step Greater id l d ms (Some key) ks h is alone rest = first-at id key ks false (ap (λ k. bytes_eq k id) (id-usable l d key is) ∙ same-by id l Greater h) ∙ rest
ring-step Greater id l d ms None ks h is alone rest = rest
ring-step Equal id l d ms (Some key) ks h is alone rest =
    let same = (bytes_eq-Decides l id).0 (same-by id l Equal h) in
    first-at id key ks true (ap (λ k. bytes_eq k id) (id-usable l d key is) ∙ same-by id l Equal h) ∙ sym is ∙ ap (λ k. usable k d) same
ring-step Equal id l d ms None ks h is alone rest =
    let same = (bytes_eq-Decides l id).0 (same-by id l Equal h) in
    rest ∙ ap (option_and_then (usable id)) (alone h) ∙ sym is ∙ ap (λ k. usable k d) same

first-ring : (id : List ℕ) (ms : Members) (ks : List (Option Key)) → members_are_ordered ms ≡ true → each_member listed_key ms ≡ Some ks → first-of id ks ≡ option_and_then (usable id) (get_member id ms)
first-ring id no_members ks o e = ap (first-of id) (sym (same_Some [] ks e))
first-ring id (member l d ms) ks o e =
    let parts = and_parts _ _ o in
    let first = bound (listed_key l d) _ ks e in
    let more = bound (each_member listed_key ms) _ ks first.2 in
    let object = bound (as_object d) _ first.0 first.1 in
    let is : usable l d ≡ first.0 = same_Some (usable l d) first.0 object.2 in
    let below = λ (h : slice_cmp nat_cmp id l ≡ Equal). ap (λ k. get_member k ms) (sym ((bytes_eq-Decides l id).0 (same-by id l Equal h))) ∙ below-none l ms parts.0 (and_parts _ _ parts.1).1 in
    ap (first-of id) (sym (same_Some (first.0 ∷ more.0) ks more.2))
    ∙ ring-step (slice_cmp nat_cmp id l) id l d ms first.0 more.0 refl is below (first-ring id ms more.0 (and_parts _ _ parts.1).1 more.1)

key-of-ring : (d : Data) (r : List Key) (id : List ℕ) → is_ordered d ≡ true → ring d ≡ Some r → key_of r id ≡ option_and_then (usable id) (get id d)
key-of-ring (object ms) r id o e =
    let each = bound (each_member listed_key ms) _ r e in
    ap (λ keys. key_of keys id) (sym (same_Some _ r each.2)) ∙ first-ring id ms each.0 o each.1
key-of-ring _ r id o e = absurd (none-some r e)

pub reasoned : (d : Data) (r : List Key) → is_ordered d ≡ true → ring d ≡ Some r → (id : List ℕ) → IsReasoned d r id
reasoned d r o e id = at-key id (get id d) ∙ ap (λ k. option_map_or (λ _. None) k (Some (unusable d id))) (sym (key-of-ring d r id o e))
