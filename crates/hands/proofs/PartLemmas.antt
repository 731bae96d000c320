-- What follows of even parts.
use Rattle.std.proofs.Common.{◌≡◌, ◌∙◌, ℕ, zero, suc, nat_lt, if◌then◌else◌, List, [], ◌∷◌, ◌++◌, ◌+◌, ◌/◌, ◌%◌, ◌<◌, ◌≤◌, map, arith, refl, sym, ap, subst}
use Rattle.std.specs.List.{range_with_len}
use Rattle.std.specs.Prelude.{All}
use Rattle.std.proofs.lemmas.List.Elements.{All-append}
use Rattle.std.proofs.lemmas.Grind.{common_steps}
use Rattle.hands.specs.Parts.{Part, start_of, part_of, even_parts, size_of, AreEven, EachOnce}
use Rattle.hands.proofs.Deals.{range-snoc}

pub next_start : (count workers k : ℕ) → k < workers → start_of count workers (k + 1) ≡ start_of count workers k + count / workers + (if nat_lt k (count % workers) then 1 else 0)
next_start count workers k below = grind (arith, common_steps)

pub ends : (count workers : ℕ) → 0 < workers → start_of count workers workers ≡ count
ends count workers some = grind arith

pub within : (count workers k : ℕ) → 0 < workers → k ≤ workers → start_of count workers k ≤ count
within count workers k some most = grind arith

ordered : (count workers k : ℕ) → k < workers → start_of count workers k ≤ start_of count workers (k + 1)
ordered count workers k below = let n = next_start count workers k below in grind arith

-- the parts of the first workers
abbrev pub parts_to : ℕ → ℕ → ℕ → List Part
parts_to count workers k = map (part_of count workers) (range_with_len 0 k)

map-snoc : (f : ℕ → Part) (xs : List ℕ) (x : ℕ) → map f (xs ++ x ∷ []) ≡ map f xs ++ f x ∷ []
map-snoc f [] x = refl
map-snoc f (y ∷ ys) x = ap (λ l. f y ∷ l) (map-snoc f ys x)

range_more : (k : ℕ) → range_with_len 0 (k + 1) ≡ range_with_len 0 k ++ k ∷ []
range_more k =
    let e : suc k ≡ k + 1 = omega arith in
    let z : 0 + k ≡ k = omega arith in
    subst (λ n. range_with_len 0 n ≡ range_with_len 0 k ++ k ∷ []) e (subst (λ x. range_with_len 0 (suc k) ≡ range_with_len 0 k ++ x ∷ []) z (range-snoc 0 k))

-- one part more
pub parts_more : (count workers k : ℕ) → parts_to count workers (k + 1) ≡ parts_to count workers k ++ part_of count workers k ∷ []
parts_more count workers k = ap (map (part_of count workers)) (range_more k) ∙ map-snoc (part_of count workers) (range_with_len 0 k) k

-- what holds of no part, and stays with one part more
parts_all : (count workers : ℕ) (P : ℕ → List Part → Type 0) → P 0 [] → ((k : ℕ) (ps : List Part) → k < workers → P k ps → P (k + 1) (ps ++ part_of count workers k ∷ [])) → (k : ℕ) → k ≤ workers → P k (parts_to count workers k)
parts_all count workers P none more zero most = none
parts_all count workers P none more (suc k) most =
    let e : k + 1 ≡ suc k = omega arith in
    let was = parts_all count workers P none more k (omega arith) in
    subst (λ n. P n (parts_to count workers n)) e (subst (P (k + 1)) (sym (parts_more count workers k)) (more k (parts_to count workers k) (omega arith) was))

one_more : (from end : ℕ) (p : Part) (ps : List Part) → p.from ≡ from → p.end ≡ end → from ≤ end → EachOnce from ps → EachOnce end (ps ++ p ∷ [])
one_more from end p ps f e order all = record { once = λ n. let was = all.once n in grind (arith, common_steps) }

none_once : (count workers : ℕ) → EachOnce (start_of count workers 0) []
none_once count workers = record { once = λ n. grind (arith, common_steps) }

each_once : (count workers : ℕ) → 0 < workers → EachOnce count (even_parts count workers)
each_once count workers some =
    subst (λ n. EachOnce n (even_parts count workers)) (ends count workers some)
    (parts_all count workers (λ k ps. EachOnce (start_of count workers k) ps) (none_once count workers)
    (λ k ps below once. one_more (start_of count workers k) (start_of count workers (k + 1)) (part_of count workers k) ps refl refl (ordered count workers k below) once) workers (omega arith))

pub once_in : (count workers : ℕ) (ps : List Part) → ps ≡ even_parts count workers → 0 < workers → EachOnce count ps
once_in count workers ps e some = subst (EachOnce count) (sym e) (each_once count workers some)

-- one part more, of which the fact holds
all_more : (P : Part → Type 0) (ps : List Part) (p : Part) → All P ps → P p → All P (ps ++ p ∷ [])
all_more P ps p all new = All-append P ps (p ∷ []) all (λ i d h. let z : i ≡ 0 = omega arith in rw z new)

-- part k has as many numbers as the count divided, or one more
size : (count workers k : ℕ) → k < workers → (count / workers ≤ size_of (part_of count workers k)) × (size_of (part_of count workers k) ≤ count / workers + 1)
size count workers k below = let n = next_start count workers k below in (grind (arith, common_steps), grind (arith, common_steps))

even : (count workers : ℕ) → AreEven (even_parts count workers)
even count workers = record {
  least = count / workers;
  sizes = parts_all count workers (λ k ps. All Near ps) (λ k d h. absurd (omega arith)) (λ k ps below was. all_more Near ps (part_of count workers k) was (size count workers k below)) workers (omega arith);
}
  where
    Near : Part → Type 0
    Near p = (count / workers ≤ size_of p) × (size_of p ≤ count / workers + 1)

pub even_in : (count workers : ℕ) (ps : List Part) → ps ≡ even_parts count workers → AreEven ps
even_in count workers ps e = subst AreEven (sym e) (even count workers)

pub end_within : (count workers k : ℕ) → k < workers → start_of count workers (k + 1) ≤ count
end_within count workers k below = within count workers (k + 1) (omega arith) (omega arith)
