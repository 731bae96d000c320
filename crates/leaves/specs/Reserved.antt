-- Leaves while they are reserved and used.
use Rattle.std.specs.Prelude.{◌≡◌, ◌≢◌, ◌+◌, ◌<◌, ◌≤◌, ◌++◌, ◌⊎◌, ℕ, List, Option, Some, None, Vec, IsTrue, true, All, map}
use Rattle.std.specs.List.{AllZip}
use Rattle.std.specs.declared.alloc.Global.{Global}
use Rattle.lms.specs.Lms.{is_valid}
use Rattle.leaves.specs.declared.fault.LeavesFault.{LeavesFault}
use Rattle.leaves.specs.declared.fault.LeavesFault.TheVariants as fault
use Rattle.leaves.specs.Disk.{Left, HasNoMore}
use Rattle.leaves.specs.Leaves.{leaf_of, reserved_in, reserved_of}
use Rattle.leaves.specs.Runs.{AreDifferent}

-- each file that a crash may leave has that number of leaves reserved
abbrev pub HasReserved : List ℕ → ℕ → Left → Type 0
HasReserved public n a = (file : Option (List ℕ)) → a.may_leave file ≡ true → reserved_in public file ≡ Some n

-- a file was read that has reserved the leaves before `first`, and each that is possible now has
-- reserved those before `end`
pub record IsReserving (public : List ℕ) (first end : ℕ) (a b : Left) : Type 0 where
  pub file : Option (List ℕ)
  pub was : a.may_leave file ≡ true
  pub read : reserved_in public file ≡ Some first
  pub stored : HasReserved public end b

-- the next n leaves are reserved, and no more
pub record Reserves (public : List ℕ) (leaves n : ℕ) (a b : Left) : Type 0 where
  pub first : ℕ
  pub within : first + n ≤ leaves
  pub reserved : IsReserving public first (first + n) a b

-- # Why nothing is reserved.

-- a file that may be there isn't one of the key
abbrev pub MayBeForeign : List ℕ → Left → Type 0
MayBeForeign public a = (text : List ℕ) × (a.may_leave (Some text) ≡ true) × (reserved_of public text ≡ None)

-- the file may be missing, or one of the key
abbrev pub MayBeOwn : List ℕ → Left → Type 0
MayBeOwn public a = (a.may_leave None ≡ true)
    ⊎ ((text : List ℕ) × (n : ℕ) × (a.may_leave (Some text) ≡ true) × (reserved_of public text ≡ Some n))

-- a file that may be there leaves fewer than n of the key's leaves
abbrev pub MayHaveFewer : List ℕ → ℕ → ℕ → Left → Type 0
MayHaveFewer public leaves n a =
    (text : List ℕ) × (first : ℕ) × (a.may_leave (Some text) ≡ true) × (reserved_of public text ≡ Some first) × (leaves < first + n)

-- the fault is none of those by which nothing is reserved
abbrev pub IsLate : LeavesFault → Type 0
IsLate f = (f ≢ fault.Missing) × (f ≢ fault.Exists) × (f ≢ fault.Foreign) × (f ≢ fault.Used)

-- # Signatures.

-- signatures are handed out, by different leaves of the n from q on
pub record IsSpending (q n : ℕ) (a b : Left) : Type 0 where
  pub new : List (List ℕ)
  pub given : b.given ≡ a.given ++ new
  pub different : AreDifferent (map leaf_of new)
  pub from : All (λ sig. q ≤ leaf_of sig) new
  pub below : All (λ sig. leaf_of sig < q + n) new
  pub files : HasNoMore a b

-- each message has its valid signature
abbrev pub AreSigned : List ℕ → List (Vec ℕ Global) → List (List ℕ) → Type 0
AreSigned public messages sigs =
    AllZip (λ msg sig. IsTrue (is_valid public msg.items sig)) messages sigs

-- signatures of the messages are handed out
abbrev pub HasSigned : List ℕ → List (Vec ℕ Global) → Left → Left → Type 0
HasSigned public messages a b =
    (sigs : List (List ℕ)) × (b.given ≡ a.given ++ sigs) × AreSigned public messages sigs
