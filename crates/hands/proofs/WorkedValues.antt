-- Worked values of the definitions.
use Rattle.std.proofs.Common.{◌<◌, ◌≡◌, ℕ, List, [], ◌∷◌, map, arith, refl, true, false, inl, inr}
use Rattle.hands.specs.Parts.{Part, even_parts, IsNumber, HasTurn, took, FoundEmpty}
use Rattle.hands.specs.Sources.{Source, shares, Gave, FirstGave}
use Rattle.hands.proofs.Trying.{took_all}

part : ℕ → ℕ → Part
part from end = record { from = from; end = end }

ten_for_four : even_parts 10 4 ≡ part 0 3 ∷ part 3 6 ∷ part 6 8 ∷ part 8 10 ∷ []
unfolding part
ten_for_four = refl

two_for_four : even_parts 2 4 ≡ part 0 1 ∷ part 1 2 ∷ part 2 2 ∷ part 2 2 ∷ []
unfolding part
two_for_four = refl

none_for_two : even_parts 0 2 ≡ part 0 0 ∷ part 0 0 ∷ []
unfolding part
none_for_two = refl

-- seven numbers for three workers: 0 1 2, 3 4 and 5 6, so they come as 0 3 5 1 4 6 2
is_number : IsNumber 7 3 6 2 1
is_number = record { part = omega arith; within = omega arith; number = refl }

last_of_the_third : HasTurn 7 3 6 5
last_of_the_third = record { k = 2; before = 1; is_number = is_number; is_turn = refl }

last_of_the_first : HasTurn 7 3 2 6
last_of_the_first = record { k = 0; before = 2; is_number = record { part = omega arith; within = omega arith; number = refl }; is_turn = refl }

-- each of three workers tries the next one first, round
ways_of_three : map (λ s. s.others) (shares 7 3) ≡ (part 3 5 ∷ part 5 7 ∷ []) ∷ (part 5 7 ∷ part 0 3 ∷ []) ∷ (part 0 3 ∷ part 3 5 ∷ []) ∷ []
unfolding part
ways_of_three = refl

way_of_one : map (λ s. s.others) (shares 4 1) ≡ [] ∷ []
way_of_one = refl

source : ℕ → ℕ → List ℕ → ℕ → Source
source from end taken gone = record { part = part from end; taken = taken; alone = false; gone = gone }

-- the first number of the part 3 4
three : Gave 3 (source 3 5 [] 0) (source 3 5 (3 ∷ []) 1)
unfolding source part
three = record { is_of_part = refl; part = refl; alone = refl; taken = refl }

-- a number left the deque of the part 0 1 2 during the try, so the next deque is tried
second : FirstGave 3 (source 0 3 [] 1 ∷ source 3 5 [] 0 ∷ source 5 7 [] 0 ∷ []) (source 0 3 [] 2 ∷ source 3 5 (3 ∷ []) 1 ∷ source 5 7 [] 0 ∷ [])
unfolding source part
second = inr (record { part = refl; alone = refl; taken = refl; why = inr (omega arith) }, inl (three, refl))

differ : (n m : ℕ) → n ≡ m → n < m → ⊥
differ n m same less = omega arith

-- an only worker that has yet to take 1 can't have found its deque empty
not_empty : FoundEmpty (took (0 ∷ 1 ∷ []) (0 ∷ []) true) → ⊥
not_empty found = differ 0 1 (took_all (record { part = record { from = 0; end = 2 }; taken = 0 ∷ []; alone = true; gone = 1 }) refl found 1) (omega arith)
