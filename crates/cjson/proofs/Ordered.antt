-- The keys of each object of a tree that is read ascend.
use Rattle.std.proofs.Common.{◌≡◌, ℕ, ◌&&◌, List, Bool, true, false, Option, Some, None, option_map, option_and_then, nat_cmp, Ordering, Less, Equal, Greater, refl, ap, ◌∙◌, subst}
use Rattle.std.specs.Prelude.{⊤, if◌then◌else◌}
use Rattle.std.specs.Cmp.Lexicographic.{slice_cmp}
use Rattle.std.specs.Ordering.{match_ordering, ordering_reverse}
use Rattle.std.proofs.lemmas.Bool.{and_parts, and_from}
use Rattle.std.proofs.lemmas.Cmp.{nat_list_cmp_total}
use Rattle.json.specs.Json as json
use Rattle.json.specs.Lex.{tokens}
use Rattle.serde_json.specs.Data.{Data, number, array, object, item, Members, no_members, member, put}
use Rattle.serde_json.specs.Read.{number_of, of_json, of_items, of_members, max_depth, read}
use Rattle.cjson.specs.Document.{tree_of}
use Rattle.cjson.specs.Canon.{comes_before, has_whole_numbers, is_ordered, items_are_ordered, members_are_ordered, text, canon}

-- ---- a member added

comes_before-put_at : (o : Ordering) (l k m : List ℕ) (d e : Data) (ms : Members) → slice_cmp nat_cmp l k ≡ Less → comes_before l (member m e ms) ≡ true
    → comes_before l (match_ordering o (member k d (member m e ms)) (member m d ms) (member m e (put k d ms))) ≡ true
comes_before-put_at Less l k m d e ms below before = ap (λ c. match_ordering c true false false) below
comes_before-put_at Equal l k m d e ms below before = before
comes_before-put_at Greater l k m d e ms below before = before

-- what was before all members still is, if it is before the new key
comes_before-put : (l k : List ℕ) (d : Data) (ms : Members) → slice_cmp nat_cmp l k ≡ Less → comes_before l ms ≡ true → comes_before l (put k d ms) ≡ true
comes_before-put l k d no_members below before = ap (λ c. match_ordering c true false false) below
comes_before-put l k d (member m e ms) below before = comes_before-put_at _ l k m d e ms below before

members_are_ordered-put_at : (o : Ordering) (k l : List ℕ) (d e : Data) (ms : Members) → slice_cmp nat_cmp k l ≡ o → is_ordered d ≡ true → members_are_ordered (member l e ms) ≡ true
    → members_are_ordered (put k d ms) ≡ true → members_are_ordered (match_ordering o (member k d (member l e ms)) (member l d ms) (member l e (put k d ms))) ≡ true
members_are_ordered-put_at Less k l d e ms is new old more =
    and_from _ _ (ap (λ c. match_ordering c true false false) is) (and_from _ _ new old)
members_are_ordered-put_at Equal k l d e ms is new old more =
    let parts = and_parts _ _ old in
    and_from _ _ parts.0 (and_from _ _ new (and_parts _ _ parts.1).1)
members_are_ordered-put_at Greater k l d e ms is new old more =
    let parts = and_parts _ _ old in
    let below : slice_cmp nat_cmp l k ≡ Less = nat_list_cmp_total.antisymm l k ∙ ap ordering_reverse is in
    and_from _ _ (comes_before-put l k d ms below parts.0) (and_from _ _ (and_parts _ _ parts.1).0 more)

members_are_ordered-put : (k : List ℕ) (d : Data) (ms : Members) → is_ordered d ≡ true → members_are_ordered ms ≡ true → members_are_ordered (put k d ms) ≡ true
members_are_ordered-put k d no_members new old = and_from _ _ refl (and_from _ _ new refl)
members_are_ordered-put k d (member l e ms) new old =
    members_are_ordered-put_at _ k l d e ms refl new old (members_are_ordered-put k d ms new (and_parts _ _ (and_parts _ _ old).1).1)

-- ---- a tree of values

abbrev Passes : {A : Type 0} → (A → Bool) → Option A → Type 0
Passes test None = ⊤
Passes test (Some a) = test a ≡ true

Passes-map : {A B : Type 0} (p : A → Bool) (q : B → Bool) (h : A → B) → ((a : A) → p a ≡ true → q (h a) ≡ true) → (o : Option A) → Passes p o → Passes q (option_map h o)
Passes-map p q h k None x = tt
Passes-map p q h k (Some a) x = k a x

Passes-and_then : {A B : Type 0} (p : A → Bool) (q : B → Bool) (h : A → Option B) → ((a : A) → p a ≡ true → Passes q (h a)) → (o : Option A) → Passes p o → Passes q (option_and_then h o)
Passes-and_then p q h k None x = tt
Passes-and_then p q h k (Some a) x = k a x

any : {A : Type 0} (o : Option A) → Passes (λ a. true) o
any None = tt
any (Some a) = refl

mutual
  ordered-of_json : (j : json.Json) → Passes is_ordered (of_json j)
  ordered-of_json json.null = refl
  ordered-of_json (json.boolean b) = refl
  ordered-of_json (json.number s) = Passes-map (λ n. true) is_ordered number (λ n x. refl) (number_of s) (any _)
  ordered-of_json (json.string s) = refl
  ordered-of_json (json.array js) = Passes-map items_are_ordered is_ordered array (λ ds x. x) _ (ordered-of_items js)
  ordered-of_json (json.object ms) = Passes-map members_are_ordered is_ordered object (λ found x. x) _ (ordered-of_members ms no_members refl)

  ordered-of_items : (js : json.Items) → Passes items_are_ordered (of_items js)
  ordered-of_items json.no_items = refl
  ordered-of_items (json.item j js) =
      Passes-and_then is_ordered items_are_ordered _ (λ d x. Passes-map items_are_ordered items_are_ordered (item d) (λ ds y. and_from _ _ x y) _ (ordered-of_items js)) _ (ordered-of_json j)

  ordered-of_members : (ms : json.Members) (found : Members) → members_are_ordered found ≡ true → Passes members_are_ordered (of_members ms found)
  ordered-of_members json.no_members found h = h
  ordered-of_members (json.member name j ms) found h =
      Passes-and_then is_ordered members_are_ordered _ (λ d x. ordered-of_members ms (put name d found) (members_are_ordered-put name d found x h)) _ (ordered-of_json j)

-- ---- the law

ordered_if_found : (o : Option json.Json) → Passes is_ordered (option_and_then of_json o)
ordered_if_found None = tt
ordered_if_found (Some j) = ordered-of_json j

pub ordered-read : (text : List ℕ) (d : Data) → read text ≡ Some d → is_ordered d ≡ true
ordered-read text d reads =
    subst (Passes is_ordered) reads (ordered_if_found (option_and_then (λ p. json.if_last p.0 p.1) (json.value max_depth (tokens text))))

ordered_if_utf8 : (text : List ℕ) (d : Data) (utf8 : Bool) → (if utf8 then read text else None) ≡ Some d → is_ordered d ≡ true
ordered_if_utf8 text d true reads = ordered-read text d reads
ordered_if_utf8 text d false reads = absurd (cc)

no_text : (whole ordered : Bool) (s : List ℕ) → ordered ≡ true → (if whole && ordered then Some s else None) ≡ None → whole ≡ false
no_text true ordered s is none = absurd (cc)
no_text false ordered s is none = refl

-- a tree that is read has no canonical text only where a number isn't whole
pub not_whole-read : (text : List ℕ) (d : Data) → read text ≡ Some d → canon d ≡ None → has_whole_numbers d ≡ false
not_whole-read s d reads none = no_text (has_whole_numbers d) (is_ordered d) (text d) (ordered-read s d reads) none

pub ordered_tree : (file : List ℕ) (d : Data) → tree_of file ≡ Some d → is_ordered d ≡ true
ordered_tree file d reads = ordered_if_utf8 file d _ reads
