-- Runs that sign, each cut off at some moment.
use Rattle.std.specs.Prelude.{◌≡◌, ◌≢◌, ◌<◌, ◌++◌, ⊤, ℕ, List, [], ◌∷◌, Option, true, All, IsSomeAnd, map}
use Rattle.leaves.specs.Leaves.{leaf_of, reserved_in}
pub use Rattle.leaves.specs.Disk.{Left, HasNoMore}

-- each file that a crash may leave has reserved the leaf, and none is missing or another key's
abbrev pub IsReserved : List ℕ → Left → ℕ → Type 0
IsReserved public a q = (file : Option (List ℕ)) → a.may_leave file ≡ true
    → IsSomeAnd (reserved_in public file) (λ n. q < n)

-- no two numbers are the same
abbrev pub AreDifferent : List ℕ → Type 0
AreDifferent [] = ⊤
AreDifferent (q ∷ qs) = All (λ p. q ≢ p) qs × AreDifferent qs

-- What a run does until some moment of it, at which it may be cut off: `a` is what a crash at its
-- start would leave, and `b` what a crash at that moment leaves.
pub record IsRun (public : List ℕ) (a b : Left) : Type 0 where
  -- the signatures that the run handed out
  pub new : List (List ℕ)
  pub given : b.given ≡ a.given ++ new
  -- they are by different leaves
  pub different : AreDifferent (map leaf_of new)
  -- which were not reserved before the run
  pub fresh : All (λ sig. ¬ IsReserved public a (leaf_of sig)) new
  -- and are now, whatever the crash leaves
  pub reserved : All (λ sig. IsReserved public b (leaf_of sig)) new
  -- what was reserved stays so
  pub kept : (q : ℕ) → IsReserved public a q → IsReserved public b q

-- # Runs one after the other.

-- a run from its start to the moment at which it was cut off, and the signatures that it handed out
pub record Run : Type 0 where
  pub start : Left
  pub cut : Left
  pub new : List (List ℕ)

-- Each begins with some of the files that the crash before it left possible, and does what a run does
-- until it is cut off. A run that was only ended, as by a signal, may leave several files to the next
-- crash.
abbrev pub AreRuns : List ℕ → Left → List Run → Type 0
AreRuns public left [] = ⊤
AreRuns public left (r ∷ rs) = HasNoMore left r.start × (r.cut.given ≡ r.start.given ++ r.new)
    × IsRun public r.start r.cut × AreRuns public r.cut rs

-- what the last of them left
abbrev pub left_by : Left → List Run → Left
left_by left [] = left
left_by left (r ∷ rs) = left_by r.cut rs

-- the signatures that they handed out
abbrev pub signatures : List Run → List (List ℕ)
signatures [] = []
signatures (r ∷ rs) = r.new ++ signatures rs

-- The signatures are by different leaves, and whatever the crash left has reserved each of these.
pub record IsSafe (public : List ℕ) (a : Left) (sigs : List (List ℕ)) : Type 0 where
  pub different : AreDifferent (map leaf_of sigs)
  pub reserved : All (λ sig. IsReserved public a (leaf_of sig)) sigs
