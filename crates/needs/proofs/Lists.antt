-- Files that are listed, each once.
use Rattle.std.proofs.Common.{◌≡◌, ℕ, List, [], ◌∷◌, ◌++◌, append_assoc, append-nil, arith, length, ltb, Bool, true, false, not, ◌&&◌, ◌||◌, if◌then◌else◌, Option, Some, None, fold, true≢false, String, string_bytes, Global, map, refl, sym, ◌∙◌, ap, subst}
use Rattle.std.specs.BTreeMap.{BTreeMap}
use Rattle.std.specs.Bool.{⊤}
use Rattle.std.specs.List.{AllByRecursion as ByRecursion, list_any}
use Rattle.std.specs.Prelude.{option_to_list}
use Rattle.std.specs.Str.{bytes_eq}
use Rattle.std.proofs.lemmas.Bool.{lt-ltb}
use Rattle.std.proofs.lemmas.Slice.Eq.{bytes_eq-Decides}
use Rattle.std.proofs.lemmas.List.{map-append}
use Rattle.std.proofs.lemmas.List.Folds.{list_all-append, list_any-append}
use Rattle.needs.specs.Glue.{IsOnce, Puts, key}
use Rattle.needs.specs.Needs.{Names, Need, absent, each_once, is_in, is_needed, is_none_of, is_same, name_needs, noted}
use Rattle.needs.specs.declared.need.Place.TheVariants.{Targets}
use Rattle.needs.specs.Laws.{are_optional}
use Rattle.needs.specs.declared.once.Once.{Once}

-- ---- one more file

or_false : (b : Bool) → (b || false) ≡ b
or_false true = refl
or_false false = refl

or_true : (b : Bool) → (b || true) ≡ true
or_true true = refl
or_true false = refl

-- a name is there if it is the one added, or was there before
is_there : (name q : List ℕ) (old names : BTreeMap (String Global) ⊤) (was : Bool) (b : Bool) → bytes_eq name q ≡ b → is_in old q ≡ was → Puts name old names → is_in names q ≡ (was || (b || false))
is_there name q old names was true same is puts =
    subst (λ m. is_in names m ≡ true) ((bytes_eq-Decides name q).0 same) puts.there ∙ sym (or_true was)
is_there name q old names was false other is puts = puts.others q other ∙ is ∙ sym (or_false was)

-- one name more
pub one_more_name : {Y : Type 0} (yielded : List (String Y)) (name : String Y) (old new : BTreeMap (String Global) ⊤)
    → ((q : List ℕ) → is_in old q ≡ list_any (λ other. bytes_eq other q) (map string_bytes yielded)) → Puts (string_bytes name) old new
    → (q : List ℕ) → is_in new q ≡ list_any (λ other. bytes_eq other q) (map string_bytes (yielded ++ name ∷ []))
one_more_name yielded name old new named puts q =
    is_there (string_bytes name) q old new _ (bytes_eq (string_bytes name) q) refl (named q) puts
    ∙ sym (list_any-append (λ other. bytes_eq other q) (map string_bytes yielded) (string_bytes name ∷ []))
    ∙ ap (list_any (λ other. bytes_eq other q)) (sym (map-append string_bytes yielded (name ∷ [])))

-- keys are the same if names and marks are
same_key : (a b : Bool) (name q : List ℕ) → bytes_eq (key a name) (key b q) ≡ ((if b then a else not a) && bytes_eq name q)
same_key true true name q = refl
same_key true false name q = refl
same_key false true name q = refl
same_key false false name q = refl

module _ (o : Once) (n : Need) (once : IsOnce o) where
  -- it is there
  pub stays : is_in o.keys (key n.optional n.name) ≡ true → o.needs.items ≡ noted o.needs.items (Some n)
  stays there = ap (λ b. if b then o.needs.items else o.needs.items ++ n ∷ []) (sym there ∙ once n.optional n.name)

  -- or it isn't
  pub grows : is_in o.keys (key n.optional n.name) ≡ false → o.needs.items ++ n ∷ [] ≡ noted o.needs.items (Some n)
  grows absent = ap (λ b. if b then o.needs.items else o.needs.items ++ n ∷ []) (sym absent ∙ once n.optional n.name)

  pub one_more : (keys : BTreeMap (String Global) ⊤) → Puts (key n.optional n.name) o.keys keys → (optional : Bool) (q : List ℕ) → is_in keys (key optional q) ≡ is_needed (o.needs.items ++ n ∷ []) optional q
  one_more keys puts optional q =
      is_there (key n.optional n.name) (key optional q) o.keys keys (is_needed o.needs.items optional q) (is_same optional q n) (same_key n.optional optional n.name q) (once optional q) puts
      ∙ sym (list_any-append (is_same optional q) o.needs.items (n ∷ []))

-- ---- a target's names

-- whether names are left, by their number
pub some_left : {Y : Type 0} (names : List (String Y)) → not (is_none_of (map string_bytes names)) ≡ ltb 0 (length names)
some_left [] = refl
some_left (name ∷ names) = sym (lt-ltb 0 (length (name ∷ names)) (omega arith))

module _ (there : Names) (most : ℕ) (needs : List Need) (name : List ℕ) (names : List (List ℕ)) where
  -- the next name is there, so none of those behind it was looked up
  pub up_to : there name ≡ true → needs ≡ needs ++ name_needs there most (name ∷ names)
  up_to is = sym (append-nil needs) ∙ ap (λ b. needs ++ (if b then [] else absent Targets (not (is_none_of names)) name most ∷ name_needs there most names)) (sym is)

  -- or it isn't, and is listed
  pub next_name : (n : Need) → there name ≡ false → n ≡ absent Targets (not (is_none_of names)) name most
      → (needs ++ n ∷ []) ++ name_needs there most names ≡ needs ++ name_needs there most (name ∷ names)
  next_name n is same =
      append_assoc needs (n ∷ []) (name_needs there most names)
      ∙ ap (λ m. needs ++ m ∷ name_needs there most names) same
      ∙ ap (λ b. needs ++ (if b then [] else absent Targets (not (is_none_of names)) name most ∷ name_needs there most names)) (sym is)

-- ---- what holds of all of them

-- it holds of what is listed, if anything is
abbrev pub Holds : (Need → Type 0) → Option Need → Type 0
Holds P None = ⊤
Holds P (Some n) = P n

module _ (P : Need → Type 0) where
  last : (all : List Need) (n : Need) (b : Bool) → ByRecursion P all → P n → ByRecursion P (if b then all else all ++ n ∷ [])
  last all n true h p = h
  last all n false h p = added all h
    where
      added : (all : List Need) → ByRecursion P all → ByRecursion P (all ++ n ∷ [])
      added [] h = (p, tt)
      added (m ∷ all) h = (h.0, added all h.1)

  holds-noted : (all : List Need) (o : Option Need) → ByRecursion P all → Holds P o → ByRecursion P (noted all o)
  holds-noted all None h k = h
  holds-noted all (Some n) h k = last all n (is_needed all n.optional n.name) h k

  pub holds-from : (all : List Need) (found : List (Option Need)) → ByRecursion P all → ByRecursion (Holds P) found → ByRecursion P (fold noted all found)
  holds-from all [] h k = h
  holds-from all (o ∷ found) h k = holds-from (noted all o) found (holds-noted all o h k.0) k.1

  pub holds-once : (found : List (Option Need)) → ByRecursion (Holds P) found → ByRecursion P (each_once found)
  holds-once found k = holds-from [] found tt k

  pub holds-somes : (all : List Need) → ByRecursion P all → ByRecursion (Holds P) (map Some all)
  holds-somes [] h = tt
  holds-somes (n ∷ all) h = (h.0, holds-somes all h.1)

  pub holds-each : (all : List Need) → ByRecursion (Holds P) (map Some all) → ByRecursion P all
  holds-each [] h = tt
  holds-each (n ∷ all) h = (h.0, holds-each all h.1)

  pub holds-list : (o : Option Need) → Holds P o → ByRecursion P (option_to_list o)
  holds-list None h = tt
  holds-list (Some n) h = (h, tt)

  pub holds-both : (all more : List Need) → ByRecursion P all → ByRecursion P more → ByRecursion P (all ++ more)
  holds-both [] more h k = k
  holds-both (n ∷ all) more h k = (h.0, holds-both all more h.1 k)

-- ---- nothing is listed

none-noted : (all : List Need) (o : Option Need) → noted all o ≡ [] → (all ≡ []) × (o ≡ None)
none-noted [] None h = (refl, refl)
none-noted [] (Some n) h = absurd (cc)
none-noted (m ∷ all) None h = absurd (cc)
none-noted (m ∷ all) (Some n) h = absurd (full (is_needed (m ∷ all) n.optional n.name) h)
  where
    full : (b : Bool) → (if b then m ∷ all else m ∷ (all ++ n ∷ [])) ≡ [] → ⊥
    full true h = cc
    full false h = cc

none-from : (all : List Need) (found : List (Option Need)) → fold noted all found ≡ [] → (all ≡ []) × ByRecursion (λ o. o ≡ None) found
none-from all [] h = (h, tt)
none-from all (o ∷ found) h =
    let rest = none-from (noted all o) found h in
    let first = none-noted all o rest.0 in
    (first.0, (first.1, rest.1))

pub none-once : (found : List (Option Need)) → each_once found ≡ [] → ByRecursion (λ o. o ≡ None) found
none-once found h = (none-from [] found h).1

-- ---- all of them are optional

pub both_true : (a b : Bool) → (a && b) ≡ true → (a ≡ true) × (b ≡ true)
both_true true b h = (refl, h)
both_true false b h = absurd (true≢false (sym h))

pub split : (all more : List Need) → are_optional (all ++ more) ≡ true → (are_optional all ≡ true) × (are_optional more ≡ true)
split all more h = both_true (are_optional all) (are_optional more) (sym (list_all-append (λ n. n.optional) all more) ∙ h)

-- what is optional and isn't is none
pub optional-none : (all : List Need) → are_optional all ≡ true → ByRecursion (λ n. n.optional ≡ false) all → all ≡ []
optional-none [] h k = refl
optional-none (n ∷ all) h k = absurd (true≢false (sym (both_true n.optional (are_optional all) h).0 ∙ k.0))

abbrev pub IsOptional : Need → Type 0
IsOptional n = n.optional ≡ true

-- so is what is among them
optional-named : (optional : Bool) (all : List Need) (name : List ℕ) → are_optional all ≡ true → is_needed all optional name ≡ true → optional ≡ true
optional-named true all name h is = refl
optional-named false [] name h is = absurd (true≢false (sym is))
optional-named false (n ∷ all) name h is =
    let both = both_true n.optional (are_optional all) h in
    optional-named false all name both.1 (others n.optional (bytes_eq n.name name) (is_needed all false name) both.0 is)
  where
    others : (a b c : Bool) → a ≡ true → ((not a && b) || c) ≡ true → c ≡ true
    others true b c h is = is
    others false b c h is = absurd (true≢false (sym h))

optional-last : (all : List Need) (n : Need) (b : Bool) → is_needed all n.optional n.name ≡ b → are_optional (if b then all else all ++ n ∷ []) ≡ true → (are_optional all ≡ true) × IsOptional n
optional-last all n true is h = (h, optional-named n.optional all n.name h is)
optional-last all n false is h = let both = split all (n ∷ []) h in (both.0, (both_true n.optional true both.1).0)

optional-noted : (all : List Need) (o : Option Need) → are_optional (noted all o) ≡ true → (are_optional all ≡ true) × Holds IsOptional o
optional-noted all None h = (h, tt)
optional-noted all (Some n) h = optional-last all n (is_needed all n.optional n.name) refl h

-- and what was found
pub optional-from : (all : List Need) (found : List (Option Need)) → are_optional (fold noted all found) ≡ true → (are_optional all ≡ true) × ByRecursion (Holds IsOptional) found
optional-from all [] h = (h, tt)
optional-from all (o ∷ found) h =
    let rest = optional-from (noted all o) found h in
    let first = optional-noted all o rest.0 in
    (first.0, (first.1, rest.1))
