-- Even parts of the numbers below a count.
use lib.ListN.{get_elem?}
use mathlib.Core.Option.{some}
use Rattle.std.specs.Prelude.{ℕ, Bool, ◌&&◌, ◌+◌, ◌-◌, ◌*◌, ◌/◌, ◌%◌, ◌≡◌, ◌≤◌, min, List, map, count_by, nat_le, nat_lt, if◌then◌else◌, All, ◌<◌, ◌==◌, true, [], ◌∷◌, ◌++◌, length}
use Rattle.std.specs.List.{range_with_len}
use Rattle.hands.specs.declared.rule.Took.{Took}

-- the numbers from `from` up to `end`, which isn't one of them
pub record Part : Type 0 where
  pub from : ℕ
  pub end : ℕ

-- where part k begins: where the count doesn't divide, the first parts are longer by one
abbrev pub start_of : ℕ → ℕ → ℕ → ℕ
start_of count workers k = k * (count / workers) + min k (count % workers)

-- part k ends where the next one begins
abbrev pub part_of : ℕ → ℕ → ℕ → Part
part_of count workers k =
    record { from = start_of count workers k; end = start_of count workers (k + 1) }

-- the parts of all workers, in order
abbrev pub even_parts : ℕ → ℕ → List Part
even_parts count workers = map (part_of count workers) (range_with_len 0 workers)

-- the part's numbers, in order
abbrev pub numbers : Part → List ℕ
numbers p = range_with_len p.from (p.end - p.from)

-- how many numbers the part has
abbrev pub size_of : Part → ℕ
size_of p = p.end - p.from

-- the sizes differ by at most one
pub record AreEven (parts : List Part) : Type 0 where
  pub least : ℕ
  pub sizes : All (λ p. (least ≤ size_of p) × (size_of p ≤ least + 1)) parts

-- whether the number is one of the part
abbrev pub has : ℕ → Part → Bool
has n p = nat_le p.from n && nat_lt n p.end

-- each number below the count is in one part, and no other number is in any
pub record EachOnce (count : ℕ) (parts : List Part) : Type 0 where
  pub once : (n : ℕ) → count_by (has n) parts ≡ (if nat_lt n count then 1 else 0)

-- # The order of the numbers where the parts of all workers are taken in turns: their first
-- numbers, then their second ones, and so on.

-- the number is that of part k behind `before` others
pub record IsNumber (count workers n k before : ℕ) : Type 0 where
  pub part : k < workers
  pub within : before < size_of (part_of count workers k)
  pub number : n ≡ start_of count workers k + before

-- where the number comes: behind whole rounds of all workers, and in its own round behind those of
-- the parts below
pub record HasTurn (count workers n turn : ℕ) : Type 0 where
  pub k : ℕ
  pub before : ℕ
  pub is_number : IsNumber count workers n k before
  pub is_turn : turn ≡ before * workers + k

-- # The protocol of one deque: what it holds is the end of what was pushed, and each number that
-- left it was taken by one thread.

-- what a thread knows of the deque
abbrev pub took : List ℕ → List ℕ → Bool → Took
took pushed taken alone = record { pushed = pushed; taken = taken; alone = alone }

-- how often a number stands in a list
abbrev pub times : ℕ → List ℕ → ℕ
times n xs = count_by (λ x. x == n) xs

-- f of what each thread knows, added up
abbrev pub total : (Took → ℕ) → List Took → ℕ
total f [] = 0
total f (v ∷ vs) = f v + total f vs

-- each thread knows all that was pushed, and one that is alone is the only one
abbrev pub Fits : List ℕ → ℕ → Took → Type 0
Fits pushed threads v = (v.pushed ≡ pushed) × (v.alone ≡ true → threads ≡ 1)

-- what was pushed is what left at the front and then what is held, and a number left as often as
-- all threads took it
abbrev pub Dealt : List ℕ → List Took → Type 0
Dealt items views =
    (front : List ℕ) × (pushed : List ℕ) × (pushed ≡ front ++ items)
    × ((n : ℕ) → times n front ≡ total (λ v. times n v.taken) views)
    × ((thread : ℕ) (v : Took) → get_elem? views thread ≡ some v → Fits pushed (length views) v)

-- these numbers were taken, which stand in what was pushed
abbrev pub Takes : Took → List ℕ → Took → Type 0
Takes v xs w =
    (w ≡ took v.pushed (v.taken ++ xs) v.alone)
    × ((before : List ℕ) × (after : List ℕ) × (v.pushed ≡ before ++ (xs ++ after)))

-- these numbers were pushed
abbrev pub Pushes : Took → List ℕ → Took → Type 0
Pushes v xs w = w ≡ took (v.pushed ++ xs) v.taken v.alone

-- a moment that the rule allows, at which the deque is empty and a thread knows this of it
abbrev pub FoundEmpty : Took → Type 0
FoundEmpty v =
    (views : List Took) × (thread : ℕ) × Dealt [] views × (get_elem? views thread ≡ some v)
