-- A board at one moment, its seats, and what a seat learns from one step on it.
use mathlib.Core.Option.{some}
use lib.ListN.{get_elem?}
use Rattle.std.specs.Prelude.{Contains, ◌≡◌, ◌↔◌, ◌⊎◌, ℕ, ◌+◌, ◌==◌, ◌≤◌, Bool, true, false, if◌then◌else◌, List, [], ◌∷◌, length, slice_index, slice_index_or, Some, ◌≢◌, ◌++◌, None, ◌||◌, nat_eq, ◌<◌, Option}
use Rattle.std.specs.List.{IsDistinct}
use Rattle.atomic_table.specs.Seated.{TableId}
use Rattle.atomic_table.specs.Table.{Me, Step}
use Rattle.board.specs.declared.look.Look.TheVariants.{Open, Taken, Valid, Invalid}
pub use Rattle.board.specs.declared.view.View.{View}
use Rattle.board.specs.declared.checks.TheConstants.{MOST_CHECKS}
use Rattle.board.specs.declared.look.Look.{Look}

-- # A board at one moment: its words, and what each seat knows. Word 0 is 1 once the work was
-- stopped. Word j + 1 is that of check j: 0 open, 1 taken, 2 valid, 3 invalid.

-- whether check j is true
abbrev pub truth : List Bool → ℕ → Bool
truth truths j = slice_index_or truths j false

abbrev pub stop_word : List ℕ → ℕ
stop_word words = slice_index words 0

abbrev pub check_word : List ℕ → ℕ → ℕ
check_word words j = slice_index words (j + 1)

-- the word of a check is a verdict
abbrev pub IsDecided : ℕ → Type 0
IsDecided word = (word ≡ 2) ⊎ (word ≡ 3)

-- how often the check is in a list
abbrev pub times : ℕ → List ℕ → ℕ
times j [] = 0
times j (i ∷ is) = (if i == j then 1 else 0) + times j is

-- how often the check is in the lists of what the seats did
abbrev pub times_done : ℕ → List View → ℕ
times_done j [] = 0
times_done j (v ∷ vs) = times j v.done + times_done j vs

-- the seat of this number has claimed check j
abbrev pub Holds : List View → ℕ → ℕ → Type 0
Holds views j seat = (v : View) × (get_elem? views seat ≡ some v) × (v.right ≡ Some j)

-- the seat has seen or published the verdict of check j
abbrev pub Knows : View → ℕ → Type 0
Knows v j = Contains v.seen j ⊎ Contains v.done j

-- what holds of a board's words and seats between any two steps
pub record IsLawful (truths : List Bool) (words : List ℕ) (views : List View) : Type 0 where
  -- a word for each check and one to stop, each with a value of its own kind
  pub size : length words ≡ length truths + 1
  pub values : (j : ℕ) → check_word words j ≤ 3
  pub stop_value : stop_word words ≤ 1
  -- a verdict is the truth
  pub valid : (j : ℕ) → check_word words j ≡ 2 → truth truths j ≡ true
  pub invalid : (j : ℕ) → check_word words j ≡ 3 → truth truths j ≡ false
  -- a check is taken exactly if a seat has claimed it, and one seat alone has
  pub taken : (j : ℕ) → check_word words j ≡ 1 ↔ ((seat : ℕ) × Holds views j seat)
  pub alone : (j a b : ℕ) → Holds views j a → Holds views j b → a ≡ b
  -- what a seat knows is decided
  pub decided : (seat : ℕ) (v : View) (j : ℕ)
      → get_elem? views seat ≡ some v → Knows v j → IsDecided (check_word words j)
  -- no check was done twice
  pub once : (j : ℕ) → times_done j views ≤ 1
  -- a seat is halted only after a stop
  pub halted : (seat : ℕ) (v : View)
      → get_elem? views seat ≡ some v → v.halted ≡ true → stop_word words ≡ 1

-- # What the seat learns that takes one step on one word of a board.

-- ---- what a seat knows after a step

-- a seat that knows nothing of these checks
abbrev pub newcomer : List Bool → View
newcomer truths = record {
  truths = truths;
  right = None;
  seen = [];
  done = [];
  halted = false;
  found = None;
}

-- it has claimed check j
abbrev pub holding : View → ℕ → View
holding v j = record v { right = Some j }

-- it has no claim
abbrev pub released : View → View
released v = record v { right = None }

-- it has seen the verdict of check j
abbrev pub having_seen : View → ℕ → View
having_seen v j = record v { seen = v.seen ++ j ∷ [] }

-- its last look found this word
abbrev pub having_found : ℕ → View → View
having_found word v = record v { found = Some word }

-- it published the verdict of check j, which ends its claim
abbrev pub having_done : View → ℕ → View
having_done v j = record v { right = None; seen = v.seen ++ j ∷ []; done = v.done ++ j ∷ [] }

-- it knows of a stop
abbrev pub halting : View → View
halting v = record v { halted = true }

-- it has its own claim, and what both have seen and done
abbrev pub joined : View → View → View
joined v w =
    record v { seen = v.seen ++ w.seen; done = v.done ++ w.done; halted = v.halted || w.halted }

-- ---- what a step shows

-- a seat of a table that has words alone: what it knows, and no slot
abbrev pub Sat : Type 0
Sat = Me (Unit {0}) View

-- P holds of the check whose word the step is on
abbrev pub AtCheck : Step (Unit {0}) → (ℕ → Type 0) → Type 0
AtCheck st P = (j : ℕ) → st.word ≡ j + 1 → P j

-- what the seat did has no check twice, so it is no longer than the list of checks
abbrev pub IsCounted : View → Type 0
IsCounted v = IsDistinct nat_eq v.done × (length v.done ≤ length v.truths)

-- a claim succeeds on an open check, which the seat can't have known, and changes nothing if
-- another word is found
abbrev pub Claims : Step (Unit {0}) → Sat → ℕ → Sat → Type 0
Claims st me found me' = AtCheck st (λ j.
    (found ≡ 0 → (me' ≡ (holding me.0 j, me.1)) × ¬ Knows me.0 j) × (found ≢ 0 → me' ≡ me))

-- a verdict is published
abbrev pub Publishes : Step (Unit {0}) → Sat → ℕ → Sat → Type 0
Publishes st me stored me' = AtCheck st (λ j. (me' ≡ (having_done me.0 j, me.1)) × IsCounted me'.0)

-- the claim is released
abbrev pub GivesBack : Step (Unit {0}) → Sat → ℕ → Sat → Type 0
GivesBack st me stored me' = me' ≡ (released me.0, me.1)

-- a look at check j: a verdict is the truth, what the seat has claimed is taken, and what it knows
-- is decided; the seat records the word
pub record Sees (me : Sat) (found : ℕ) (me' : Sat) (j : ℕ) : Type 0 where
  pub word : found ≤ 3
  pub valid : found ≡ 2 → truth me.0.truths j ≡ true
  pub invalid : found ≡ 3 → truth me.0.truths j ≡ false
  pub taken : me.0.right ≡ Some j → found ≡ 1
  pub known : Knows me.0 j → IsDecided found
  pub seen : IsDecided found → me' ≡ (having_found found (having_seen me.0 j), me.1)
  pub same : ¬ IsDecided found → me' ≡ (having_found found me.0, me.1)

abbrev pub Looks : Step (Unit {0}) → Sat → ℕ → Sat → Type 0
Looks st me found me' = AtCheck st (Sees me found me')

-- the work is stopped
abbrev pub Stops : Step (Unit {0}) → Sat → ℕ → Sat → Type 0
Stops st me stored me' = me' ≡ (halting me.0, me.1)

-- a look at the stop word: a halted seat finds 1, and one that finds 1 is halted
pub record Notices (st : Step (Unit {0})) (me : Sat) (found : ℕ) (me' : Sat) : Type 0 where
  pub word : found ≤ 1
  pub known : me.0.halted ≡ true → found ≡ 1
  pub halted : found ≡ 1 → me' ≡ (halting me.0, me.1)
  pub same : found ≢ 1 → me' ≡ me

-- nothing changes, and the seat's list is counted
abbrev pub Counts : Step (Unit {0}) → Sat → ℕ → Sat → Type 0
Counts st me found me' = (me' ≡ me) × IsCounted me.0

-- # A board and a seat, as contracts see them.

-- which board it is, and the truths of its checks
pub record BoardValue : Type 0 where
  pub id : TableId
  pub truths : List Bool

-- which board the seat is of, and what it knows
pub record SeatValue : Type 0 where
  pub board : TableId
  pub view : View

-- the seat is one of this board
abbrev pub IsSeatOf : BoardValue → SeatValue → Type 0
IsSeatOf b s = (s.board ≡ b.id) × (s.view.truths ≡ b.truths)

-- the seat is one of this board, and has no claim
pub record IsFree (b : BoardValue) (s : SeatValue) : Type 0 where
  pub seat : IsSeatOf b s
  pub right : s.view.right ≡ None

-- the first list is the beginning of the second
abbrev pub GoesOn : List ℕ → List ℕ → Type 0
GoesOn xs ys = (more : List ℕ) × (ys ≡ xs ++ more)

-- the later view has all that the earlier one had, but for its claim
pub record HasAll (v w : View) : Type 0 where
  pub truths : w.truths ≡ v.truths
  pub seen : GoesOn v.seen w.seen
  pub done : GoesOn v.done w.done
  pub halted : v.halted ≡ true → w.halted ≡ true

-- the later seat is of the same board, and has all that the earlier one had seen and done
pub record Keeps (s t : SeatValue) : Type 0 where
  pub board : t.board ≡ s.board
  pub view : HasAll s.view t.view

-- what holds of each seat's fields: it has no slot, the check that it holds is the one that it has
-- claimed, and its count is the length of its list
pub record IsKept (me : Sat) (held : Option ℕ) (published : ℕ) : Type 0 where
  pub no_slot : me.1 ≡ []
  pub holds : held ≡ me.0.right
  pub counted : published ≡ length me.0.done
  pub most : published ≤ MOST_CHECKS
  pub once : IsDistinct nat_eq me.0.done
  pub within : (j : ℕ) → held ≡ Some j → j < length me.0.truths

-- a table that no board has
abbrev pub no_table : TableId
no_table = record {
  words = 0;
  slots = 0;
  views_name = 0;
  atom = 0;
  block = 0;
  offset = 0;
  slot_names = [];
}

-- a seat of no board, for a caller that has to name a seat before it has one
abbrev pub no_seat : SeatValue
no_seat = record { view = newcomer []; board = no_table }

-- # The result of a look.

-- the look shows a verdict
abbrev pub IsVerdict : Look → Type 0
IsVerdict l = (l ≡ Valid) ⊎ (l ≡ Invalid)

-- the word of a check that a look shows like this
abbrev pub word_of_look : Look → ℕ
word_of_look Open = 0
word_of_look Taken = 1
word_of_look Valid = 2
word_of_look Invalid = 3
