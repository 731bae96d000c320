-- The records of a log of reserved leaves, of 60 bytes each. What is left at the end is none.
use Rattle.std.specs.Prelude.{◌≡◌, ◌*◌, ◌+◌, ◌/◌, ◌<◌, ◌≤◌, ℕ, List, None, IsSomeAnd, length, slice_range}
use Rattle.leaves.specs.Leaves.{reserved_of}

abbrev pub count_of : List ℕ → ℕ
count_of log = length log / 60

-- the k-th record, counted from 0
abbrev pub record_at : List ℕ → ℕ → List ℕ
record_at log k = slice_range log (60 * k) (60 * k + 60)

-- each of the first n records is one of the key, and has no greater number
abbrev pub AreWithin : List ℕ → List ℕ → ℕ → ℕ → Type 0
AreWithin public log most n =
    (k : ℕ) → k < n → IsSomeAnd (reserved_of public (record_at log k)) (λ number. number ≤ most)

-- some record isn't one of the key
abbrev pub HasOther : List ℕ → List ℕ → Type 0
HasOther public log =
    (k : ℕ) × (k < count_of log) × (reserved_of public (record_at log k) ≡ None)
