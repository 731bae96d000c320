-- Files that were measured as far as they are needed.
use Rattle.std.proofs.Common.{◌≡◌, ℕ, ◌+◌, max, nat_lt, if◌then◌else◌, List, [], ◌∷◌, Bool, true, false, ◌&&◌, ◌||◌, not, Option, None, Some, is_some, IfSome, find, refl, sym, ◌∙◌, ap, subst, arith, ◌<◌, ◌≢◌, ◌⊎◌, inl, inr, length}
use Rattle.std.proofs.Math.Dec.{eqb}
use Rattle.std.proofs.Math.ListN.{get_or}
use Rattle.std.proofs.lemmas.Bool.Decides.{eqb_tells}
use Rattle.std.proofs.lemmas.List.{get_or_default}
use Rattle.std.proofs.lemmas.List.Folds.{list_any_at}
use Rattle.std.specs.BTreeMap.{get_by_text}
use Rattle.std.specs.Option.{option_map_or}
use Rattle.std.specs.Str.{bytes_eq}
use Rattle.std.specs.List.{list_any}
use Rattle.std.proofs.lemmas.Slice.Eq.{bytes_eq-Decides}
use Rattle.examine.specs.Checks.{target_names}
use Rattle.cycle.specs.Workflow.{Target, target_of}
use Rattle.deleg.specs.declared.accepted.Search.{Search}
use Rattle.folder.specs.declared.measure.Need.{Need}
use Rattle.measured.specs.Closed.{is_found, is_found_by, is_name_of}
use Rattle.measured.specs.Known.{Grows, IsCovered, IsSame, Puts, covers, is_measured, knows, place, widened}
use Rattle.measured.proofs.Knowing.{at_name, names_still}
use Rattle.measured.specs.declared.known.Known.{Known}
use Rattle.measured.specs.declared.known.Wanted.{Wanted}

-- ---- what is needed

or_itself : (a : Bool) → (not a || a) ≡ true
or_itself true = refl
or_itself false = refl

or_other : (a b c : Bool) → (not a || b) ≡ true → (not a || (b || c)) ≡ true
or_other true true c h = refl
or_other true false c h = absurd (cc)
or_other false b c h = refl

or_last : (a b : Bool) → (not a || (b || a)) ≡ true
or_last true true = refl
or_last true false = refl
or_last false b = refl

all_three : (a b c : Bool) → a ≡ true → b ≡ true → c ≡ true → (a && b && c) ≡ true
all_three true true true p q r = refl
all_three true true false p q r = absurd (cc)
all_three true false c p q r = absurd (cc)
all_three false b c p q r = absurd (cc)

pub first_of_three : (a b c : Bool) → (a && b && c) ≡ true → a ≡ true
first_of_three true b c h = refl
first_of_three false b c h = absurd (cc)

pub second_of_three : (a b c : Bool) → (a && b && c) ≡ true → b ≡ true
second_of_three true true c h = refl
second_of_three true false c h = absurd (cc)
second_of_three false b c h = absurd (cc)

pub third_of_three : (a b c : Bool) → (a && b && c) ≡ true → c ≡ true
third_of_three true true true h = refl
third_of_three true true false h = absurd (cc)
third_of_three true false c h = absurd (cc)
third_of_three false b c h = absurd (cc)

below_max : (a b : ℕ) → nat_lt a (max b (a + 1)) ≡ true
below_max a b = grind arith

below_more : (a b c : ℕ) → nat_lt a b ≡ true → nat_lt a (max b (c + 1)) ≡ true
below_more a b c h = grind arith

pub covers_it : (n : Need) (t : Target) → covers (widened n t) t ≡ true
covers_it n t =
    all_three _ _ _ (below_max t.length n.up_to) (or_last (is_some t.hashes.sha256) n.sha256) (or_last (is_some t.hashes.sha512) n.sha512)

pub covers_still : (n : Need) (t u : Target) → covers n u ≡ true → covers (widened n t) u ≡ true
covers_still n t u h =
    let a = nat_lt u.length n.up_to in let b = not (is_some u.hashes.sha256) || n.sha256 in let c = not (is_some u.hashes.sha512) || n.sha512 in
    all_three _ _ _
    (below_more u.length n.up_to t.length (first_of_three a b c h))
    (or_other (is_some u.hashes.sha256) n.sha256 (is_some t.hashes.sha256) (second_of_three a b c h))
    (or_other (is_some u.hashes.sha512) n.sha512 (is_some t.hashes.sha512) (third_of_three a b c h))

-- ---- the first name that is there

find_same : (p q : List ℕ → Bool) (names : List (List ℕ)) → ((name : List ℕ) → p name ≡ q name) → find p names ≡ find q names
find_same p q [] same = refl
find_same p q (name ∷ names) same = rw (same name) (ap (λ rest. if q name then Some name else rest) (find_same p q names same))

by_test : (b : Bool) (name : List ℕ) (rest : Option (List ℕ)) (P : List ℕ → Type 0)
    → (b ≡ true → P name) → IfSome rest P → IfSome (if b then Some name else rest) P
by_test true name rest P here there = here refl
by_test false name rest P here there = there

found_there : (p : List ℕ → Bool) (names : List (List ℕ)) → IfSome (find p names) (λ name. p name ≡ true)
found_there p [] = tt
found_there p (name ∷ names) = by_test (p name) name (find p names) (λ n. p n ≡ true) (λ h. h) (found_there p names)

itself : (name : List ℕ) → bytes_eq name name ≡ true
itself name = (bytes_eq-Decides name name).1 refl

weaker : {A : Type 0} (P Q : A → Type 0) (o : Option A) → ((a : A) → P a → Q a) → IfSome o P → IfSome o Q
weaker P Q None f h = tt
weaker P Q (Some a) f h = f a h

or_right : (a b : Bool) → b ≡ true → (a || b) ≡ true
or_right true b h = refl
or_right false b h = h

or_left : (a b : Bool) → a ≡ true → (a || b) ≡ true
or_left true b h = refl
or_left false b h = absurd (cc)

found_among : (p : List ℕ → Bool) (names : List (List ℕ)) → IfSome (find p names) (λ name. list_any (λ other. bytes_eq other name) names ≡ true)
found_among p [] = tt
found_among p (name ∷ names) =
    by_test (p name) name (find p names) (λ n. list_any (λ other. bytes_eq other n) (name ∷ names) ≡ true)
    (λ h. or_left (bytes_eq name name) _ (itself name))
    (weaker _ _ (find p names) (λ n h. or_right (bytes_eq name n) _ h) (found_among p names))

pub place_there : (k : Known) (consistent : Bool) (t : Target) (name : List ℕ) → place k consistent t ≡ Some name → is_some (get_by_text k.files name) ≡ true
place_there k consistent t name is =
    subst (λ o. IfSome o (λ n. is_some (get_by_text k.files n) ≡ true)) is
    (found_there (λ n. is_some (get_by_text k.files n)) (target_names consistent t.path t.hashes.sha256 t.hashes.sha512))

pub place_of_target : (k : Known) (consistent : Bool) (t : Target) (name : List ℕ) → place k consistent t ≡ Some name → is_name_of consistent name t ≡ true
place_of_target k consistent t name is =
    subst (λ o. IfSome o (λ n. is_name_of consistent n t ≡ true)) is
    (found_among (λ n. is_some (get_by_text k.files n)) (target_names consistent t.path t.hashes.sha256 t.hashes.sha512))

-- ---- what stays known

same_place : (old new : Known) (consistent : Bool) (t : Target) → Grows old new → place new consistent t ≡ place old consistent t
same_place old new consistent t grows =
    find_same (λ n. is_some (get_by_text new.files n)) (λ n. is_some (get_by_text old.files n)) (target_names consistent t.path t.hashes.sha256 t.hashes.sha512) grows.names

known_at : (o : Option (List ℕ)) (old new : List ℕ → Bool) → ((name : List ℕ) → old name ≡ true → new name ≡ true) → option_map_or old o true ≡ true → option_map_or new o true ≡ true
known_at None old new more h = refl
known_at (Some name) old new more h = more name h

knows_still : (old new : Known) (consistent : Bool) (t : Target) → Grows old new → knows old consistent t ≡ true → knows new consistent t ≡ true
knows_still old new consistent t grows h =
    let now = λ (k : Known) (name : List ℕ). option_map_or (λ o. is_measured o t) (get_by_text k.files name) false in
    ap (λ o. option_map_or (now new) o true) (same_place old new consistent t grows)
    ∙ known_at (place old consistent t) (now old) (now new) (λ name. grows.measures name t) h

pub covered_still : (old new : Known) (consistent : Bool) (s : Option Search) → Grows old new → IsCovered old consistent s → IsCovered new consistent s
covered_still old new consistent s grows h = weaker _ _ (target_of s) (λ t. knows_still old new consistent t grows) h

pub same_grows : (old new : Known) → IsSame old new → Grows old new
same_grows old new same = record {
  names = λ name. ap is_some (same name);
  measures = λ name t h. ap (λ o. option_map_or (λ o. is_measured o t) o false) (same name) ∙ h;
}

pub itself_grows : (k : Known) → Grows k k
itself_grows k = record { names = λ name. refl; measures = λ name t h. h }

measured_still : (is_added : Bool) (old new : Option (Option Wanted)) (value : Option Wanted) (t : Target)
    → (is_added ≡ true → new ≡ Some value) → (is_added ≡ false → new ≡ old)
    → (is_added ≡ true → option_map_or (λ o. is_measured o t) old false ≡ true → is_measured value t ≡ true)
    → option_map_or (λ o. is_measured o t) old false ≡ true → option_map_or (λ o. is_measured o t) new false ≡ true
measured_still true old new value t added kept more h = ap (λ o. option_map_or (λ o. is_measured o t) o false) (added refl) ∙ more refl h
measured_still false old new value t added kept more h = ap (λ o. option_map_or (λ o. is_measured o t) o false) (kept refl) ∙ h

pub put_grows : (name : List ℕ) (value : Option Wanted) (old new : Known) → Puts name value old new → is_some (get_by_text old.files name) ≡ true
    → ((t : Target) → option_map_or (λ o. is_measured o t) (get_by_text old.files name) false ≡ true → is_measured value t ≡ true) → Grows old new
put_grows name value old new puts there more = record {
  names = names_still name value old new puts there;
  measures = λ q t.
      measured_still (bytes_eq name q) (get_by_text old.files q) (get_by_text new.files q) value t (at_name name q value old new puts) (puts.others q)
      (λ same. subst (λ n. option_map_or (λ o. is_measured o t) (get_by_text old.files n) false ≡ true → is_measured value t ≡ true) ((bytes_eq-Decides name q).0 same) (more t));
}

-- ---- what is known at last

pub knows_now : (old new : Known) (consistent : Bool) (t : Target) (name : List ℕ) → Grows old new → place old consistent t ≡ Some name
    → option_map_or (λ o. is_measured o t) (get_by_text new.files name) false ≡ true → knows new consistent t ≡ true
knows_now old new consistent t name grows is h =
    ap (λ o. option_map_or (λ n. option_map_or (λ o. is_measured o t) (get_by_text new.files n) false) o true) (same_place old new consistent t grows ∙ is) ∙ h

pub not_there : (k : Known) (consistent : Bool) (t : Target) → place k consistent t ≡ None → knows k consistent t ≡ true
not_there k consistent t none = ap (λ o. option_map_or (λ n. option_map_or (λ o. is_measured o t) (get_by_text k.files n) false) o true) none

-- ---- one search after the other

strictly : (k i : ℕ) → k < i + 1 → k ≢ i → k < i
strictly k i below other = grind arith

pub one_more_covered : (old new : Known) (consistent : Bool) (all : List (Option Search)) (i : ℕ) (item : Option Search)
    → i < length all → item ≡ get_or all i item → Grows old new
    → ((k : ℕ) (d : Option Search) → k < i → IsCovered old consistent (get_or all k d)) → IsCovered new consistent item
    → (k : ℕ) (d : Option Search) → k < i + 1 → IsCovered new consistent (get_or all k d)
one_more_covered old new consistent all i item inside is grows before here k d below = go (eqb_tells k i)
  where
    go : ((eqb k i ≡ true) × (k ≡ i)) ⊎ ((eqb k i ≡ false) × (k ≢ i)) → IsCovered new consistent (get_or all k d)
    go (inl same) =
        subst (λ n. IsCovered new consistent (get_or all n d)) (sym same.1)
        (subst (λ s. IsCovered new consistent s) (is ∙ get_or_default all i item d inside) here)
    go (inr other) = covered_still old new consistent (get_or all k d) grows (before k d (strictly k i below other.1))

pub found_at : (consistent : Bool) (all : List (Option Search)) (i : ℕ) (item : Option Search) → i < length all → item ≡ get_or all i item
    → (name : List ℕ) → is_found_by consistent name item ≡ true → is_found consistent all name ≡ true
found_at consistent all i item inside is name h = list_any_at (is_found_by consistent name) all i item inside (ap (is_found_by consistent name) (sym is) ∙ h)
