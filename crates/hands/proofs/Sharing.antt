-- What follows of the shares of hands.
use Rattle.std.proofs.Common.{◌≡◌, ◌∙◌, ◌<◌, ◌+◌, ◌-◌, ◌%◌, ℕ, List, [], ◌∷◌, ◌++◌, length, get_or, set, map, All, arith, sym, ap, subst, ⊎_elim, length-set}
use Rattle.std.specs.List.{range_with_len}
use Rattle.std.proofs.lemmas.Grind.{common_steps}
use Rattle.std.proofs.lemmas.List.{length-map, get_or-map, map-set, set-get_or, get_or-set_same, get_or-set_other, map-append}
use Rattle.std.proofs.lemmas.List.FromFn.{length-map-range_with_len, get_or-map-range_with_len, map-range_with_len_more, fill_by_all}
use Rattle.std.proofs.lemmas.Simd.{map-map}
use Rattle.std.proofs.lemmas.Bool.{cases_eq}
use Rattle.hands.specs.Parts.{Part, start_of, part_of, even_parts, EachOnce, AreEven}
use Rattle.hands.specs.Sources.{part_from, Held, Share, share_in, share_to, shares, shares_at, far_at, with_way, own_parts}
use Rattle.hands.proofs.PartLemmas.{even_in, once_in}

-- two lists made of the numbers below a count are the same where their elements are
same_table : (f g : ℕ → Share) (n : ℕ) → ((j : ℕ) → j < n → f j ≡ g j) → map f (range_with_len 0 n) ≡ map g (range_with_len 0 n)
same_table f g n same =
    fill_by_all g (map f (range_with_len 0 n)) n (f 0) (length-map-range_with_len f 0 n) (λ k below. get_or-map-range_with_len f 0 n k k (f 0) below (omega arith) ∙ same k below)

-- hand k has all ways, and the next one begins
pub linked : (count workers k : ℕ) → k < workers → shares_at count workers k workers ≡ shares_at count workers (k + 1) 1
linked count workers k below =
    same_table (λ j. share_to count workers j (far_at workers k workers j)) (λ j. share_to count workers j (far_at workers (k + 1) 1 j)) workers
    (λ j _. let e : far_at workers k workers j ≡ far_at workers (k + 1) 1 j = grind (arith, common_steps) in ap (share_to count workers j) e)

-- no hand has a way
pub none_linked : (count workers : ℕ) → shares_at count workers 0 1 ≡ map (λ j. share_to count workers j 1) (range_with_len 0 workers)
none_linked count workers =
    same_table (λ j. share_to count workers j (far_at workers 0 1 j)) (λ j. share_to count workers j 1) workers
    (λ j _. let e : far_at workers 0 1 j ≡ 1 = grind (arith, common_steps) in ap (share_to count workers j) e)

-- all hands have all ways
pub all_linked : (count workers : ℕ) → shares_at count workers workers 1 ≡ shares count workers
all_linked count workers =
    same_table (λ j. share_to count workers j (far_at workers workers 1 j)) (λ j. share_to count workers j workers) workers
    (λ j below. let e : far_at workers workers 1 j ≡ workers = grind (arith, common_steps) in ap (share_to count workers j) e)

-- one way more
pub way_more : (count workers k far : ℕ) → 0 < far → with_way (share_to count workers k far) (part_of count workers ((k + far) % workers)) ≡ share_to count workers k (far + 1)
way_more count workers k far some =
    let f : ℕ → Part = λ i. part_of count workers ((k + i) % workers) in
    let e : far - 1 + 1 ≡ far + 1 - 1 = omega arith in
    let more = map-range_with_len_more f 1 (far - 1) far (omega arith) in
    ap (λ ps. record { count = count; workers = workers; part = part_of count workers k; others = ps }) (sym more ∙ ap (λ n. map f (range_with_len 1 n)) e)

-- the share of one hand
share_at : (count workers k far j : ℕ) (hs : List Held) (d : Held) → map share_in hs ≡ shares_at count workers k far → j < workers → share_in (get_or hs j d) ≡ share_to count workers j (far_at workers k far j)
share_at count workers k far j hs d is below =
    let f : ℕ → Share = λ i. share_to count workers i (far_at workers k far i) in
    let len : length hs ≡ workers = sym (length-map hs share_in) ∙ (ap length is ∙ length-map-range_with_len f 0 workers) in
    sym (get_or-map share_in hs j d (share_in d) (omega arith)) ∙ (ap (λ l. get_or l j (share_in d)) is ∙ get_or-map-range_with_len f 0 workers j j (share_in d) below (omega arith))

pub length_of : (count workers k far : ℕ) (hs : List Held) → map share_in hs ≡ shares_at count workers k far → length hs ≡ workers
length_of count workers k far hs is =
    let f : ℕ → Share = λ i. share_to count workers i (far_at workers k far i) in
    sym (length-map hs share_in) ∙ (ap length is ∙ length-map-range_with_len f 0 workers)

pub workers_at : (count workers k far j : ℕ) (hs : List Held) (d : Held) → map share_in hs ≡ shares_at count workers k far → j < workers → (get_or hs j d).workers ≡ workers
workers_at count workers k far j hs d is below = ap (λ (s : Share). s.workers) (share_at count workers k far j hs d is below)

pub count_at : (count workers k far j : ℕ) (hs : List Held) (d : Held) → map share_in hs ≡ shares_at count workers k far → j < workers → (get_or hs j d).count ≡ count
count_at count workers k far j hs d is below = ap (λ (s : Share). s.count) (share_at count workers k far j hs d is below)

pub part_at : (count workers k far j : ℕ) (hs : List Held) (d : Held) → map share_in hs ≡ shares_at count workers k far → j < workers → (get_or hs j d).own.part ≡ part_of count workers j
part_at count workers k far j hs d is below = ap (λ (s : Share). s.part) (share_at count workers k far j hs d is below)

-- a hand whose share stays
pub share_set : (hs : List Held) (j : ℕ) (h d : Held) → share_in h ≡ share_in (get_or hs j d) → map share_in (set hs j h) ≡ map share_in hs
share_set hs j h d same = map-set share_in hs j h ∙ (ap (λ s. set (map share_in hs) j s) same ∙ (sym (map-set share_in hs j (get_or hs j d)) ∙ ap (map share_in) (set-get_or hs j d)))

-- hand k has one way more
pub way_set : (count workers k far : ℕ) (hs : List Held) (h d : Held) (p : Part) → map share_in hs ≡ shares_at count workers k far → k < workers → 0 < far
    → p ≡ part_of count workers ((k + far) % workers) → share_in h ≡ with_way (share_in (get_or hs k d)) p → map share_in (set hs k h) ≡ shares_at count workers k (far + 1)
way_set count workers k far hs h d p is below some to more =
    fill_by_all g (map share_in (set hs k h)) workers (share_in d)
    (length-map (set hs k h) share_in ∙ (length-set hs k h ∙ len))
    (λ j b. get_or-map share_in (set hs k h) j d (share_in d) (let l = len in let m = length-set hs k h in omega arith) ∙ ⊎_elim (same j) (other j b) (cases_eq j k))
  where
    len : length hs ≡ workers
    len = length_of count workers k far hs is

    g : ℕ → Share
    g j = share_to count workers j (far_at workers k (far + 1) j)

    at : share_in (get_or hs k d) ≡ share_to count workers k far
    at =
        let e : far_at workers k far k ≡ far = grind (arith, common_steps) in
        share_at count workers k far k hs d is below ∙ ap (share_to count workers k) e

    same : (j : ℕ) → j ≡ k → share_in (get_or (set hs k h) j d) ≡ g j
    same j e =
        let far' : far + 1 ≡ far_at workers k (far + 1) j = grind (arith, common_steps) in
        let l = len in
        let read : get_or (set hs k h) j d ≡ h = rw e (get_or-set_same hs k h d (omega arith)) in
        let here : share_in h ≡ share_to count workers k (far + 1) = more ∙ (ap (λ s. with_way s p) at ∙ (ap (with_way (share_to count workers k far)) to ∙ way_more count workers k far some)) in
        ap share_in read ∙ (here ∙ (ap (λ i. share_to count workers i (far + 1)) (sym e) ∙ ap (share_to count workers j) far'))

    other : (j : ℕ) → j < workers → (j ≡ k → ⊥) → share_in (get_or (set hs k h) j d) ≡ g j
    other j b differ =
        let e : far_at workers k far j ≡ far_at workers k (far + 1) j = grind (arith, common_steps) in
        ap share_in (get_or-set_other hs k j h d differ) ∙ (share_at count workers k far j hs d is b ∙ ap (share_to count workers j) e)

pub parts_are : (count workers : ℕ) (hs : List Held) → map share_in hs ≡ shares count workers → own_parts hs ≡ even_parts count workers
parts_are count workers hs is =
    sym (map-map (λ (s : Share). s.part) share_in hs) ∙ (ap (map (λ (s : Share). s.part)) is ∙ map-map (λ (s : Share). s.part) (λ k. share_to count workers k workers) (range_with_len 0 workers))

pub even_hands : (count workers : ℕ) (hs : List Held) → map share_in hs ≡ shares count workers → AreEven (own_parts hs)
even_hands count workers hs is = even_in count workers (own_parts hs) (parts_are count workers hs is)

pub once_hands : (count workers : ℕ) (hs : List Held) → map share_in hs ≡ shares count workers → 0 < workers → EachOnce count (own_parts hs)
once_hands count workers hs is some = once_in count workers (own_parts hs) (parts_are count workers hs is) some

pub counts_are : (count workers : ℕ) (hs : List Held) → map share_in hs ≡ shares count workers → All (λ h. h.count ≡ count) hs
counts_are count workers hs is k d below =
    let f : ℕ → Share = λ j. share_to count workers j workers in
    let len : length hs ≡ workers = sym (length-map hs share_in) ∙ (ap length is ∙ length-map-range_with_len f 0 workers) in
    let at : share_in (get_or hs k d) ≡ f k = sym (get_or-map share_in hs k d (share_in d) below) ∙ (ap (λ l. get_or l k (share_in d)) is ∙ get_or-map-range_with_len f 0 workers k k (share_in d) (omega arith) (omega arith)) in
    ap (λ (s : Share). s.count) at

-- one hand more, without ways
pub apart_more : (count workers k : ℕ) (hs : List Held) (h : Held) → map share_in hs ≡ map (λ j. share_to count workers j 1) (range_with_len 0 k) → share_in h ≡ share_to count workers k 1
    → map share_in (hs ++ h ∷ []) ≡ map (λ j. share_to count workers j 1) (range_with_len 0 (k + 1))
apart_more count workers k hs h is new =
    let f : ℕ → Share = λ j. share_to count workers j 1 in
    let more = map-range_with_len_more f 0 k k (omega arith) in
    map-append share_in hs (h ∷ []) ∙ (ap (λ l. l ++ share_in h ∷ []) is ∙ (ap (λ s. map f (range_with_len 0 k) ++ s ∷ []) new ∙ sym more))

-- # Forms in which the functions have these facts.

pub bare : (count workers k from end : ℕ) (h : Held) → from ≡ start_of count workers k → end ≡ start_of count workers (k + 1)
    → share_in h ≡ record { count = count; workers = workers; part = part_from from end; others = [] } → share_in h ≡ share_to count workers k 1
bare count workers k from end h low high is =
    is ∙ (ap (λ n. record { count = count; workers = workers; part = part_from n end; others = [] }) low
    ∙ ap (λ n. record { count = count; workers = workers; part = part_from (start_of count workers k) n; others = [] }) high)

-- a hand that was read out of the list
pub read_workers : (count workers k far j : ℕ) (hs : List Held) (x : Held) → map share_in hs ≡ shares_at count workers k far → j < workers → x ≡ get_or hs j x → x.workers ≡ workers
read_workers count workers k far j hs x is below at = ap (λ (h : Held). h.workers) at ∙ workers_at count workers k far j hs x is below

pub read_count : (count workers k far j : ℕ) (hs : List Held) (x : Held) → map share_in hs ≡ shares_at count workers k far → j < workers → x ≡ get_or hs j x → x.count ≡ count
read_count count workers k far j hs x is below at = ap (λ (h : Held). h.count) at ∙ count_at count workers k far j hs x is below

pub read_part : (count workers k far j : ℕ) (hs : List Held) (x : Held) → map share_in hs ≡ shares_at count workers k far → j < workers → x ≡ get_or hs j x → x.own.part ≡ part_of count workers j
read_part count workers k far j hs x is below at = ap (λ (h : Held). h.own.part) at ∙ part_at count workers k far j hs x is below

pub read_same : (count workers k far j : ℕ) (hs : List Held) (x h : Held) → map share_in hs ≡ shares_at count workers k far → x ≡ get_or hs j x → share_in h ≡ share_in x → map share_in (set hs j h) ≡ shares_at count workers k far
read_same count workers k far j hs x h is at same = share_set hs j h x (same ∙ ap share_in at) ∙ is

pub read_way : (count workers k far : ℕ) (hs : List Held) (x h : Held) (p : Part) → map share_in hs ≡ shares_at count workers k far → k < workers → 0 < far → x ≡ get_or hs k x
    → p ≡ part_of count workers ((k + far) % workers) → share_in h ≡ with_way (share_in x) p → map share_in (set hs k h) ≡ shares_at count workers k (far + 1)
read_way count workers k far hs x h p is below some at to more =
    way_set count workers k far hs h x p is below some to (more ∙ ap (λ (y : Held). with_way (share_in y) p) at)

pub of_len : (count n workers k far : ℕ) (hs : List Held) → n ≡ workers → map share_in hs ≡ shares_at count n k far → map share_in hs ≡ shares_at count workers k far
of_len count n workers k far hs e is = subst (λ w. map share_in hs ≡ shares_at count w k far) e is

pub done : (count workers k : ℕ) (hs : List Held) → k ≡ workers → map share_in hs ≡ shares_at count workers k 1 → map share_in hs ≡ shares count workers
done count workers k hs e is = subst (λ n. map share_in hs ≡ shares_at count workers n 1) e is ∙ all_linked count workers

pub linked_to : (count workers k far : ℕ) (hs : List Held) → k < workers → far ≡ workers → map share_in hs ≡ shares_at count workers k far → map share_in hs ≡ shares_at count workers (k + 1) 1
linked_to count workers k far hs below e is = subst (λ n. map share_in hs ≡ shares_at count workers k n) e is ∙ linked count workers k below

pub none_yet : (count workers k : ℕ) (hs : List Held) → k ≡ workers → map share_in hs ≡ map (λ j. share_to count workers j 1) (range_with_len 0 k) → map share_in hs ≡ shares_at count workers 0 1
none_yet count workers k hs e is = subst (λ n. map share_in hs ≡ map (λ j. share_to count workers j 1) (range_with_len 0 n)) e is ∙ sym (none_linked count workers)
