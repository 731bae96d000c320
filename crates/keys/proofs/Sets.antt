-- The set of signers, along a list of keys.
use Rattle.std.proofs.Common.{◌≡◌, ℕ, ◌+◌, ◌<◌, ◌≤◌, Bool, true, false, cond, ◌||◌, List, [], ◌∷◌, ◌++◌, length, get_or, take, drop, map, filter, nat_cmp, refl, sym, ap, ◌∙◌, subst, append_assoc, append-nil, arith, rules, tests, nat_le}
use Rattle.std.proofs.lemmas.List.{take_more, take-append-drop, map-append}
use Rattle.std.proofs.lemmas.List.Elements.{filter-append}
use Rattle.std.specs.Cmp.{Equal-is}
use Rattle.std.specs.Cmp.Lexicographic.{slice_cmp, nat_list_cmp_total}
use Rattle.std.specs.Ordering.{eq_by_cmp}
use Rattle.std.specs.List.{list_any}
use Rattle.std.proofs.Common.{bytes_eq}
use Rattle.std.proofs.lemmas.Map.Text.{is_eq-slice_cmp}
use Rattle.std.specs.FinSet as set
use Rattle.std.specs.FinSet.{FinSet, nat_cmp-IsAntisymmetric, slice_cmp-IsAntisymmetric}
use Rattle.keys.specs.declared.key.Key.{Key}

abbrev pub Values : Type 0
Values = FinSet (slice_cmp nat_cmp)

abbrev pub only_equal_tie : set.IsAntisymmetric (slice_cmp nat_cmp)
only_equal_tie = slice_cmp-IsAntisymmetric nat_cmp-IsAntisymmetric

abbrev pub values : List (List ℕ) → Values
values ks = set.from_list {R = slice_cmp nat_cmp} ks

absorbed : (b c : Bool) → (b ≡ true → c ≡ true) → (b || c) ≡ c
absorbed true c h = sym (h refl)
absorbed false c h = refl

-- what is in it already changes nothing
pub insert_again : (s : Values) (k : List ℕ) → set.contains s k ≡ true → set.insert s k ≡ s
insert_again s k here =
    set.same_set nat_list_cmp_total only_equal_tie _ _ (λ q.
    set.contains-insert nat_list_cmp_total s k q
    ∙ absorbed _ _ (λ tie. sym (set.contains_tied nat_list_cmp_total s q k ((Equal-is (slice_cmp nat_cmp q k)).0 tie)) ∙ here))

pub values_push : (ks : List (List ℕ)) (k : List ℕ) → values (ks ++ k ∷ []) ≡ set.insert (values ks) k
values_push ks k = set.from_list_push nat_list_cmp_total only_equal_tie ks k

cond_grows : (b : Bool) (n : ℕ) → n ≤ cond b n (n + 1)
cond_grows true n = omega arith
cond_grows false n = omega arith

insert_grows : (s : Values) (k : List ℕ) → set.len s ≤ set.len (set.insert s k)
insert_grows s k = rw (set.len-insert nat_list_cmp_total s k) (cond_grows _ _)

-- more values are no fewer
pub values_grow : (ks ls : List (List ℕ)) → set.len (values ks) ≤ set.len (values (ks ++ ls))
values_grow ks [] = rw (append-nil ks) (omega arith)
values_grow ks (l ∷ ls) =
    let one : set.len (values ks) ≤ set.len (values (ks ++ l ∷ [])) = rw (values_push ks l) (insert_grows (values ks) l) in
    let more : set.len (values (ks ++ l ∷ [])) ≤ set.len (values ((ks ++ l ∷ []) ++ ls)) = values_grow (ks ++ l ∷ []) ls in
    let e : (ks ++ l ∷ []) ++ ls ≡ ks ++ l ∷ ls = append_assoc ks (l ∷ []) ls in
    let all : set.len (values (ks ++ l ∷ [])) ≤ set.len (values (ks ++ l ∷ ls)) = subst (λ xs. set.len (values (ks ++ l ∷ [])) ≤ set.len (values xs)) e more in
    omega arith

-- the public values of the keys that pass
abbrev pub signers_of : (Key → Bool) → List Key → Values
signers_of p keys = values (map (λ key. key.public) (filter p keys))

one_key : (p : Key → Bool) (s : List (List ℕ)) (key : Key) (b : Bool) → p key ≡ b → values (s ++ map (λ k. k.public) (filter p (key ∷ []))) ≡ cond b (set.insert (values s) key.public) (values s)
one_key p s key true is = rw is (values_push s key.public)
one_key p s key false is = rw is (ap values (append-nil s))

-- one more key
pub signers_more : (p : Key → Bool) (keys : List Key) (i : ℕ) (key : Key) (b : Bool) → i < length keys → key ≡ get_or keys i key → p key ≡ b
    → signers_of p (take (i + 1) keys) ≡ cond b (set.insert (signers_of p (take i keys)) key.public) (signers_of p (take i keys))
signers_more p keys i key b within is passes =
    ap (signers_of p) (take_more keys i key within ∙ ap (λ k. take i keys ++ k ∷ []) (sym is))
    ∙ ap (λ ks. values (map (λ (k : Key). k.public) ks)) (filter-append p (take i keys) (key ∷ []))
    ∙ ap values (map-append (λ (k : Key). k.public) (filter p (take i keys)) (filter p (key ∷ [])))
    ∙ one_key p _ key b passes

-- the first keys alone are no more signers than all
pub signers_of_some : (p : Key → Bool) (keys : List Key) (i : ℕ) → set.len (signers_of p (take i keys)) ≤ set.len (signers_of p keys)
signers_of_some p keys i =
    let all : map (λ (k : Key). k.public) (filter p keys) ≡ map (λ (k : Key). k.public) (filter p (take i keys)) ++ map (λ (k : Key). k.public) (filter p (drop i keys)) =
    ap (λ ks. map (λ (k : Key). k.public) (filter p ks)) (sym (take-append-drop i keys)) ∙ ap (map (λ (k : Key). k.public)) (filter-append p (take i keys) (drop i keys)) ∙ map-append (λ (k : Key). k.public) _ _ in
    subst (λ ks. set.len (signers_of p (take i keys)) ≤ set.len (values ks)) (sym all) (values_grow _ _)

any_same : (ks : List (List ℕ)) (q : List ℕ) → list_any (eq_by_cmp (slice_cmp nat_cmp) q) ks ≡ list_any (bytes_eq q) ks
any_same [] q = refl
any_same (k ∷ ks) q = λ i. is_eq-slice_cmp q k i || any_same ks q i

pub contains_values : (ks : List (List ℕ)) (q : List ℕ) → set.contains (values ks) q ≡ list_any (bytes_eq q) ks
contains_values ks q = set.contains-from_list nat_list_cmp_total ks q ∙ any_same ks q

-- one more, if it was not among them
pub added_len : (ks : List (List ℕ)) (k : List ℕ) (n m : ℕ) → set.contains (values ks) k ≡ false → set.len (values ks) ≡ n → m ≡ n + 1 → set.len (values (ks ++ k ∷ [])) ≡ m
added_len ks k n m new len more = ap set.len (values_push ks k) ∙ set.len-insert nat_list_cmp_total (values ks) k ∙ ap (λ b. cond b (set.len (values ks)) (set.len (values ks) + 1)) new ∙ ap (λ x. x + 1) len ∙ sym more

pub leb-from_le : (m n : ℕ) → m ≤ n → true ≡ nat_le m n
leb-from_le m n h = search (rules, tests)

-- enough keys signed before the last was checked
pub met_early : (p : Key → Bool) (keys all : List Key) (i : ℕ) (s : Values) (len needed threshold : ℕ) → keys ≡ all → s ≡ signers_of p (take i keys) → len ≡ set.len s → needed ≡ threshold → needed ≤ len
    → true ≡ nat_le threshold (set.len (signers_of p all))
met_early p keys all i s len needed threshold same is counted asked le =
    let some : set.len (signers_of p (take i keys)) ≤ set.len (signers_of p keys) = signers_of_some p keys i in
    let these : len ≡ set.len (signers_of p (take i keys)) = counted ∙ ap set.len is in
    let every : set.len (signers_of p keys) ≡ set.len (signers_of p all) = ap (λ ks. set.len (signers_of p ks)) same in
    leb-from_le _ _ (omega arith)

-- a key was checked
pub signed_more : (p : Key → Bool) (keys : List Key) (i : ℕ) (key : Key) (b : Bool) (s t : Values) → i < length keys → key ≡ get_or keys i key → b ≡ p key → s ≡ signers_of p (take i keys)
    → t ≡ cond b (set.insert s key.public) s → t ≡ signers_of p (take (i + 1) keys)
signed_more p keys i key b s t within is passes so_far next =
    next ∙ ap (λ (u : Values). cond b (set.insert u key.public) u) so_far ∙ sym (signers_more p keys i key b within is (sym passes))

-- the set after a key was added
pub added_to : (s t u : Values) (k q : List ℕ) → t ≡ u → u ≡ set.insert s k → k ≡ q → t ≡ set.insert s q
added_to s t u k q is more same = is ∙ more ∙ ap (set.insert s) same
