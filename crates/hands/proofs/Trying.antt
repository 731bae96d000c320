-- What the tries at several deques give together.
use Rattle.std.proofs.Common.{◌≡◌, ◌<◌, ℕ, zero, suc, ◌+◌, List, [], ◌∷◌, length, get_or, set, arith, refl, sym, ap, ◌∙◌, subst, inl, inr}
use Rattle.std.proofs.lemmas.List.{map-set, set-get_or}
use Rattle.std.proofs.Common.{Option, None, Some, IfSome, IfNone, ◌≤◌, ◌-◌, ◌++◌, true, All, ⊎_elim, append-nil}
use Rattle.std.proofs.lemmas.Grind.{common_steps}
use Rattle.std.proofs.lemmas.List.FromFn.{get_or-range_with_len, length-range_with_len}
use Rattle.std.proofs.lemmas.List.{length-append}
use mathlib.Core.Option.{some, some-ne-none, some-injective}
use lib.ListN.{get_elem?}
use Rattle.hands.specs.declared.rule.Took.{Took}
use Rattle.hands.specs.Parts.{Part, has, numbers, times, Takes, FoundEmpty, total}
use Rattle.hands.specs.Sources.{Held, IsHeld, Source, source_of, known, Gave, GaveNone, FirstGave, EachGaveNone, TookAll, parts_in}

-- the first deques, so many, gave none, and the others are as they were
abbrev pub Tried : ℕ → List Source → List Source → Type 0
Tried zero ss ts = ts ≡ ss
Tried (suc place) [] ts = ts ≡ []
Tried (suc place) (s ∷ ss) [] = ⊥
Tried (suc place) (s ∷ ss) (t ∷ ts) = GaveNone s t × Tried place ss ts

first_none : (ts : List Source) (t d : Source) → 0 < length ts → GaveNone (get_or ts 0 d) t → Tried 1 ts (set ts 0 t)
first_none [] t d below none = absurd (omega arith)
first_none (x ∷ ts) t d below none = (none, refl)

-- one deque more gave none
pub one_more : (place : ℕ) (ss ts : List Source) (t d : Source) → place < length ts → Tried place ss ts → GaveNone (get_or ts place d) t → Tried (place + 1) ss (set ts place t)
one_more zero ss ts t d below tried none = subst (λ l. Tried 1 l (set ts 0 t)) tried (first_none ts t d below none)
one_more (suc p) [] ts t d below tried none = let e : length ts ≡ 0 = ap length tried in absurd (omega arith)
one_more (suc p) (s ∷ ss) [] t d below tried none = absurd (omega arith)
one_more (suc p) (s ∷ ss) (x ∷ ts) t d below tried none =
    let e : suc (p + 1) ≡ suc p + 1 = omega arith in
    subst (λ n. Tried n (s ∷ ss) (x ∷ set ts p t)) e (tried.0, one_more p ss ts t d (omega arith) tried.1 none)

first_gave : (n : ℕ) (ts : List Source) (t d : Source) → 0 < length ts → Gave n (get_or ts 0 d) t → FirstGave n ts (set ts 0 t)
first_gave n [] t d below gave = absurd (omega arith)
first_gave n (x ∷ ts) t d below gave = inl (gave, refl)

-- one deque more gave a number
pub one_gave : (n place : ℕ) (ss ts : List Source) (t d : Source) → place < length ts → Tried place ss ts → Gave n (get_or ts place d) t → FirstGave n ss (set ts place t)
one_gave n zero ss ts t d below tried gave = subst (λ l. FirstGave n l (set ts 0 t)) tried (first_gave n ts t d below gave)
one_gave n (suc p) [] ts t d below tried gave = let e : length ts ≡ 0 = ap length tried in absurd (omega arith)
one_gave n (suc p) (s ∷ ss) [] t d below tried gave = absurd (omega arith)
one_gave n (suc p) (s ∷ ss) (x ∷ ts) t d below tried gave = inr (tried.0, one_gave n p ss ts t d (omega arith) tried.1 gave)

-- all were tried
pub all_tried : (ss ts : List Source) → Tried (length ss) ss ts → EachGaveNone ss ts
all_tried [] ts tried = tried
all_tried (s ∷ ss) [] tried = tried
all_tried (s ∷ ss) (t ∷ ts) tried = (tried.0, all_tried ss ts tried.1)

-- a deque whose part stays
pub parts_set : (ss : List Source) (place : ℕ) (t d : Source) → t.part ≡ (get_or ss place d).part → parts_in (set ss place t) ≡ parts_in ss
parts_set ss place t d same = map-set (λ s. s.part) ss place t ∙ (ap (λ p. set (parts_in ss) place p) same ∙ (sym (map-set (λ s. s.part) ss place (get_or ss place d)) ∙ ap parts_in (set-get_or ss place d)))

stands : (before after : List ℕ) (n : ℕ) → get_or (before ++ n ∷ after) (length before) 0 ≡ n
stands [] after n = refl
stands (x ∷ before) after n = stands before after n

-- a number that stands in a part is one of it
in_part : (p : Part) (before after : List ℕ) (n : ℕ) → numbers p ≡ before ++ n ∷ after → has n p ≡ true
in_part p before after n e =
    let len : p.end - p.from ≡ length (before ++ n ∷ after) = sym (length-range_with_len p.from (p.end - p.from)) ∙ ap length e in
    let more = length-append before (n ∷ after) in
    let at : p.from + length before ≡ n = sym (get_or-range_with_len p.from (p.end - p.from) (length before) 0 (omega arith)) ∙ (ap (λ l. get_or l (length before) 0) e ∙ stands before after n) in
    let low : p.from ≤ n = omega arith in
    let high : n < p.end = omega arith in
    grind (arith, common_steps)

-- what a call on the deque gave
pub gave : (p : Part) (v w : Took) (n gone gone' : ℕ) → v.pushed ≡ numbers p → Takes v (n ∷ []) w → Gave n (source_of p v gone) (source_of p w gone')
gave p v w n gone gone' pushed takes = record {
  is_of_part = in_part p takes.1.0 takes.1.1 n (sym pushed ∙ takes.1.2);
  part = refl;
  alone = ap (λ (t : Took). t.alone) takes.0;
  taken = ap (λ (t : Took). t.taken) takes.0;
}

-- a number of a part that ends below the count
pub below_end : (count n : ℕ) (s t : Source) → s.part.end ≤ count → Gave n s t → n < count
below_end count n s t most gave = let is = gave.is_of_part in grind (arith, common_steps)

pub below_all : (count n : ℕ) (ss ts : List Source) → All (λ p. p.end ≤ count) (parts_in ss) → FirstGave n ss ts → n < count
below_all count n [] ts most first = absurd first
below_all count n (s ∷ ss) [] most first = absurd first
below_all count n (s ∷ ss) (t ∷ ts) most first =
    ⊎_elim (λ (x : Gave n s t × (ts ≡ ss)). below_end count n s t (most 0 s.part (omega arith)) x.0)
    (λ (x : GaveNone s t × FirstGave n ss ts). below_all count n ss ts (λ k d b. most (suc k) d (omega arith)) x.1)
    first

-- a thread that is alone and found the deque empty took all that was pushed
alone_took : (views : List Took) (thread : ℕ) (v : Took) (n : ℕ) → length views ≡ 1 → get_elem? views thread ≡ some v → total (λ u. times n u.taken) views ≡ times n v.taken
alone_took [] thread v n one at = absurd (omega arith)
alone_took (u ∷ []) zero v n one at = let e : u ≡ v = some-injective u v at in rw e (omega arith)
alone_took (u ∷ []) (suc p) v n one at = absurd (some-ne-none v (sym at))
alone_took (u ∷ w ∷ us) thread v n one at = absurd (omega arith)

pub took_all : (s : Source) → s.alone ≡ true → FoundEmpty (known s) → TookAll s
took_all s alone found n =
    let views = found.0 in let thread = found.1 in let dealt = found.2 in let at = found.3 in
    let mine = dealt.4 thread (known s) at in
    let all = alone_took views thread (known s) n (mine.1 alone) at in
    let front : numbers s.part ≡ dealt.0 = mine.0 ∙ (dealt.2 ∙ append-nil dealt.0) in
    sym all ∙ (sym (dealt.3 n) ∙ ap (times n) (sym front))

-- # Forms in which the functions have these facts.

-- a deque that was read out of the list
pub read_none : (place : ℕ) (ss ts : List Source) (x t : Source) → place < length ts → Tried place ss ts → x ≡ get_or ts place x → GaveNone x t → Tried (place + 1) ss (set ts place t)
read_none place ss ts x t below tried is none = one_more place ss ts t x below tried (subst (λ s. GaveNone s t) is none)

pub read_gave : (n place : ℕ) (ss ts : List Source) (x t : Source) → place < length ts → Tried place ss ts → x ≡ get_or ts place x → Gave n x t → FirstGave n ss (set ts place t)
read_gave n place ss ts x t below tried is gave = one_gave n place ss ts t x below tried (subst (λ s. Gave n s t) is gave)

pub read_parts : (ss ts : List Source) (place : ℕ) (x t : Source) → x ≡ get_or ts place x → t.part ≡ x.part → parts_in ts ≡ parts_in ss → parts_in (set ts place t) ≡ parts_in ss
read_parts ss ts place x t is same parts = parts_set ts place t x (same ∙ ap (λ (s : Source). s.part) is) ∙ parts

pub tried_all : (place : ℕ) (ss ts : List Source) → place ≡ length ss → Tried place ss ts → EachGaveNone ss ts
tried_all place ss ts e tried = all_tried ss ts (subst (λ n. Tried n ss ts) e tried)

pub gave_some : (p : Part) (v w : Took) (r : Option ℕ) (gone gone' : ℕ) → v.pushed ≡ numbers p → IfSome r (λ n. Takes v (n ∷ []) w) → IfSome r (λ n. Gave n (source_of p v gone) (source_of p w gone'))
gave_some p v w None gone gone' pushed takes = tt
gave_some p v w (Some n) gone gone' pushed takes = gave p v w n gone gone' pushed takes

pub below_held : (h : Held) (r : Option ℕ) (ts : List Source) → IsHeld h → IfSome r (λ n. FirstGave n h.others ts) → IfSome r (λ n. n < h.count)
below_held h None ts held first = tt
below_held h (Some n) ts held first = below_all h.count n h.others ts held.others first

pub only_took : (h : Held) (r : Option ℕ) → IsHeld h → FoundEmpty (known h.own) → h.workers ≡ 1 → IfNone r (TookAll h.own)
only_took h None held found one = took_all h.own (held.only one) found
only_took h (Some n) held found one = tt

pub ruleset tries = (read_none, read_gave, read_parts, tried_all)
