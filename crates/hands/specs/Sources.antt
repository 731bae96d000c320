-- The deques from which a hand takes numbers: its own first, and then the others'.
use Rattle.std.specs.Prelude.{ℕ, Bool, ◌+◌, ◌-◌, ◌%◌, ◌≡◌, ◌≤◌, ◌<◌, ◌⊎◌, nat_lt, if◌then◌else◌, List, map, All, true, [], ◌∷◌, ◌++◌}
use Rattle.std.specs.List.{range_with_len}
use Rattle.std.specs.declared.alloc.Global.{Global}
use Rattle.crossbeam_deque.specs.Handles.{view, Pass, IsPassOf, stealer_deque, stealer_flavor, worker_flavor, worker_view}
use Rattle.crossbeam_deque.specs.declared.handles.Worker.{Worker}
use Rattle.crossbeam_deque.specs.declared.handles.Stealer.{Stealer}
use Rattle.hands.specs.declared.rule.Rule.{Rule}
use Rattle.hands.specs.declared.rule.Took.{Took}
use Rattle.hands.specs.Parts.{Part, part_of, numbers, has, took, times, FoundEmpty}

-- a deque as a hand sees it: the part whose numbers were pushed to it, what the hand took of it, in
-- order, whether no other hand may take, and how many numbers the hand knows to have left it
pub record Source : Type 0 where
  pub part : Part
  pub taken : List ℕ
  pub alone : Bool
  pub gone : ℕ

-- a hand of the numbers below `count`, which are dealt to so many workers: its own deque, and the
-- others' in the order in which they are tried
pub record Held : Type 0 where
  pub count : ℕ
  pub workers : ℕ
  pub own : Source
  pub others : List Source

abbrev pub sources : Held → List Source
sources h = h.own ∷ h.others

-- # What is dealt.

-- what a worker is dealt: its own part, and the parts of the deques from which it may steal
pub record Share : Type 0 where
  pub count : ℕ
  pub workers : ℕ
  pub part : Part
  pub others : List Part

abbrev pub parts_in : List Source → List Part
parts_in ss = map (λ s. s.part) ss

abbrev pub share_in : Held → Share
share_in h =
    record {
      count = h.count;
      workers = h.workers;
      part = h.own.part;
      others = parts_in h.others;
    }

-- with a way to one deque more, which is tried last
abbrev pub with_way : Share → Part → Share
with_way s p =
    record { count = s.count; workers = s.workers; part = s.part; others = s.others ++ p ∷ [] }

-- the share of hand k with ways to the hands at the distances below `far`: from the next hand
-- upwards and round
abbrev pub share_to : ℕ → ℕ → ℕ → ℕ → Share
share_to count workers k far =
    record {
      count = count;
      workers = workers;
      part = part_of count workers k;
      others = map (λ i. part_of count workers ((k + i) % workers)) (range_with_len 1 (far - 1));
    }

-- the shares of all hands, in order: each has a way to each other hand, and all of them are at
-- distances below the number of workers
abbrev pub shares : ℕ → ℕ → List Share
shares count workers = map (λ k. share_to count workers k workers) (range_with_len 0 workers)

-- how far hand j has ways while hand k has those at distances below `far`, the hands below it all
-- and the hands above it none
abbrev pub far_at : ℕ → ℕ → ℕ → ℕ → ℕ
far_at workers k far j = if nat_lt j k then workers else (if nat_lt k j then 1 else far)

-- the shares at that time
abbrev pub shares_at : ℕ → ℕ → ℕ → ℕ → List Share
shares_at count workers k far =
    map (λ j. share_to count workers j (far_at workers k far j)) (range_with_len 0 workers)

abbrev pub own_parts : List Held → List Part
own_parts hs = map (λ h. h.own.part) hs

-- the hand took nothing yet
abbrev pub Untaken : Held → Type 0
Untaken h = (h.own.taken ≡ []) × All (λ s. s.taken ≡ []) h.others

-- # What a try gives.

-- what the hand knows of the deque
abbrev pub known : Source → Took
known s = took (numbers s.part) s.taken s.alone

-- the deque gave the number, which is one of its part
pub record Gave (n : ℕ) (s t : Source) : Type 0 where
  pub is_of_part : has n s.part ≡ true
  pub part : t.part ≡ s.part
  pub alone : t.alone ≡ s.alone
  pub taken : t.taken ≡ s.taken ++ n ∷ []

-- the deque gave none: it was found empty, or a number left it during the try
pub record GaveNone (s t : Source) : Type 0 where
  pub part : t.part ≡ s.part
  pub alone : t.alone ≡ s.alone
  pub taken : t.taken ≡ s.taken
  pub why : FoundEmpty (known s) ⊎ (s.gone < t.gone)

-- the number is of the first deque that gave one: each before it gave none, and those behind it are
-- as they were
abbrev pub FirstGave : ℕ → List Source → List Source → Type 0
FirstGave n [] ts = ⊥
FirstGave n (s ∷ ss) [] = ⊥
FirstGave n (s ∷ ss) (t ∷ ts) = (Gave n s t × (ts ≡ ss)) ⊎ (GaveNone s t × FirstGave n ss ts)

-- each deque gave none
abbrev pub EachGaveNone : List Source → List Source → Type 0
EachGaveNone [] ts = ts ≡ []
EachGaveNone (s ∷ ss) [] = ⊥
EachGaveNone (s ∷ ss) (t ∷ ts) = GaveNone s t × EachGaveNone ss ts

-- the hand took each number of the part
abbrev pub TookAll : Source → Type 0
TookAll s = (n : ℕ) → times n s.taken ≡ times n (numbers s.part)

-- # What the program keeps of a deque.

-- a worker's own deque
abbrev pub Deck : Type 0
Deck = Worker ℕ Global Took Rule

-- a way to steal from a deque
abbrev pub Thief : Type 0
Thief = Stealer ℕ Global Took Rule

abbrev pub part_from : ℕ → ℕ → Part
part_from from end = record { from = from; end = end }

-- the deque of a part, of which this is known
abbrev pub source_of : Part → Took → ℕ → Source
source_of p v gone = record { part = p; taken = v.taken; alone = v.alone; gone = gone }

-- a deque, first in first out, to which the part's numbers were pushed in order, and nothing else
-- ever
pub record IsOwn (p : Part) (own : Deck) : Type 0 where
  pub flavor : worker_flavor own ≡ 0
  pub pushed : (worker_view own).pushed ≡ numbers p

-- a way to such a deque
pub record IsOther (p : Part) (thief : Thief) (pass : Pass ℕ Took Global) : Type 0 where
  pub flavor : stealer_flavor thief ≡ 0
  pub deque : IsPassOf (stealer_deque thief) pass
  pub pushed : (view pass).pushed ≡ numbers p

-- parts of the numbers below the count, and an only worker's deque is its own alone
pub record IsHeld (h : Held) : Type 0 where
  pub some : 0 < h.workers
  pub own : h.own.part.end ≤ h.count
  pub others : All (λ p. p.end ≤ h.count) (parts_in h.others)
  pub only : h.workers ≡ 1 → h.own.alone ≡ true
