-- What follows of turns.
use Rattle.std.proofs.Common.{◌≡◌, ◌∙◌, ℕ, ◌+◌, ◌-◌, ◌*◌, ◌/◌, ◌%◌, ◌<◌, ◌≤◌, arith, ap}
use Rattle.std.proofs.lemmas.Grind.{common_steps}
use Rattle.std.proofs.lemmas.Nat.{row_fits, div_below}
use Rattle.hands.specs.Parts.{IsNumber, HasTurn}

-- how far a number is in the shorter parts
abbrev pub beyond : ℕ → ℕ → ℕ → ℕ
beyond count workers n = n - (count % workers * (count / workers) + count % workers)

in_shorter_parts : (count workers n size longer shorter : ℕ) → count ≡ workers * size + longer → workers ≡ longer + shorter
    → longer * size + longer ≤ n → n < count → (0 < size) × (n - (longer * size + longer) < shorter * size)
in_shorter_parts count workers n size longer shorter is parts low below =
    let more : workers * size ≡ longer * size + shorter * size = ap (λ w. w * size) parts ∙ omega arith in
    (grind arith, omega arith)

pub in_shorter : (count workers n : ℕ) → 0 < workers → n < count → count % workers * (count / workers) + count % workers ≤ n
    → IsNumber count workers n (count % workers + beyond count workers n / (count / workers)) (beyond count workers n % (count / workers))
in_shorter count workers n some below low =
    let a = in_shorter_parts count workers n (count / workers) (count % workers) (workers - count % workers) (grind arith) (grind arith) low below in
    let least = div_below (beyond count workers n) (count / workers) (workers - count % workers) a.0 a.1 in
    record { part = grind arith; within = grind (arith, common_steps); number = grind (arith, common_steps) }

-- a number that is in its part has a turn below the count
pub turn_within : (count workers n k before : ℕ) → 0 < workers → IsNumber count workers n k before → before * workers + k < count
turn_within count workers n k before some is =
    let part = is.part in
    let within = is.within in
    let fits = row_fits before workers (count / workers) workers in
    grind (arith, common_steps)

-- no two numbers come at one place
pub one_place : (count workers n m turn : ℕ) → HasTurn count workers n turn → HasTurn count workers m turn → n ≡ m
one_place count workers n m turn a b =
    let i = a.is_number in let j = b.is_number in
    let below = i.part in let below' = j.part in
    let same = a.is_turn in let same' = b.is_turn in
    let less = row_fits a.before workers b.before workers in
    let more = row_fits b.before workers a.before workers in
    let first = i.number in let second = j.number in
    grind (arith, common_steps)
