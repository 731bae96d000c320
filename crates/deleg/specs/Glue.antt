-- What the private functions of a search and of a pattern cite.
use Rattle.std.specs.Prelude.{⊤, ◌≡◌, ◌==◌, ◌<◌, ◌+◌, ◌^◌, ℕ, Bool, if◌then◌else◌, List, [], ◌∷◌, ◌++◌, ◌||◌, false, true, Option, None, Some, chars, drop, filter, length}
use Rattle.examine.specs.Checks.{file_in}
use Rattle.deleg.specs.Search.{Edge, Accepted, Search, is_for, settled, stands_for, walk}
use Rattle.deleg.specs.declared.pattern.Compared.TheVariants as compared
use Rattle.deleg.specs.declared.pattern.Compared.{Compared}
use Rattle.deleg.specs.declared.query.Query.{Query}
use Rattle.deleg.specs.declared.walk.Step.TheVariants as step
use Rattle.deleg.specs.declared.walk.Step.{Step}

-- # How the bytes of a pattern and of a path begin.

-- `*` or `?`
abbrev pub is_sign : ℕ → Bool
is_sign p = p == 42 || p == 63

-- a byte differs before the first of these
abbrev pub begin_otherwise : List ℕ → List ℕ → Bool
begin_otherwise [] bs = false
begin_otherwise (p ∷ ps) [] = false
begin_otherwise (p ∷ ps) (b ∷ bs) =
    if is_sign p then false else if p == b then begin_otherwise ps bs else true

-- # What comparing the characters before a pattern's first `*` leaves.

pub data Remainder : Type 0 where
  -- what follows the `*`, and the path from there
  at_run : List ℕ → List ℕ → Remainder
  whole : Remainder
  fails : Remainder

abbrev pub remainder_one : ℕ → (List ℕ → Remainder) → List ℕ → Remainder
remainder_one c rest [] = fails
remainder_one c rest (d ∷ ds) = if stands_for c d then rest ds else fails

abbrev pub remainder : List ℕ → List ℕ → Remainder
remainder [] [] = whole
remainder [] (d ∷ ds) = fails
remainder (c ∷ cs) ds = if c == 42 then at_run cs ds else remainder_one c (remainder cs) ds

abbrev pub remainder_of : Compared → Remainder
remainder_of (compared.AtRun pattern path) = at_run (chars pattern.now) (chars path.now)
remainder_of compared.Whole = whole
remainder_of compared.Fails = fails

-- the path after one more character of a run, if the run may go on
abbrev pub past_one : List ℕ → Option (List ℕ)
past_one [] = None
past_one (d ∷ ds) = if d == 47 then None else Some ds

-- # A search that is under way.

-- the outcome of the search, if these delegations are pending and these roles were accepted
unfoldable pub outlook : Query → List Edge → List Accepted → Search
outlook q es seen =
    settled (walk (file_in q.context.files.now) q.context.moment q.root.now q.snapshot.now
    q.path.now q.limit es seen)

-- the delegations from the first one that is for the path
abbrev pub from_first_for : List ℕ → List Edge → List Edge
from_first_for path [] = []
from_first_for path (e ∷ es) = if is_for path e then e ∷ es else from_first_for path es

-- the pending delegations of each file, the last file's first
abbrev pub pending : List ℕ → List (List Edge) → List Edge
pending path [] = []
pending path (es ∷ files) = pending path files ++ filter (is_for path) es

-- those that are left after the first of a file's, before the other files'
abbrev pub left : Query → Bool → List Edge → List Edge → List Edge
left q terminating es others =
    if terminating then [] else filter (is_for q.path.now) (drop 1 es) ++ others

-- the outcome of the search after a step from a file's delegations
abbrev pub after : Query → List Edge → List Edge → Step → List Accepted → Search
after q es others step.Leaves seen = outlook q others seen
after q es others (step.Ends found) seen = record { found = found; accepted = seen }
after q es others (step.Skips t) seen = outlook q (left q t es others) seen
after q es others (step.Enters t below) seen =
    outlook q (filter (is_for q.path.now) below ++ left q t es others) seen

-- the step leads to the outcome of the search
abbrev pub IsStep : Query → List Edge → List Edge → List Accepted → Step → List Accepted → Type 0
IsStep q es others seen next seen' =
    outlook q (filter (is_for q.path.now) es ++ others) seen ≡ after q es others next seen'

-- so that a search ends: one more role is accepted, or one delegation less is left
abbrev pub Progresses : ℕ → List Edge → List Accepted → Step → List Accepted → Type 0
Progresses limit es seen step.Leaves seen' = seen' ≡ seen
Progresses limit es seen (step.Ends found) seen' = ⊤
Progresses limit es seen (step.Skips t) seen' = (seen' ≡ seen) × (0 < length es)
Progresses limit es seen (step.Enters t below) seen' =
    (length seen' ≡ length seen + 1) × (length seen' < limit) × (length below < 2 ^ 64)
