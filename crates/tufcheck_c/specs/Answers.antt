-- What is in the caller's memory after a call.
use Rattle.std.specs.Prelude.{◌≡◌, ◌≤◌, ◌==◌, ℕ, ℤ, pos, negsuc, List, Bool, false, ◌&&◌, nat_le, take, length}
use denote.Ref.{MutBor}
pub use Rattle.embed.specs.Jobs.{HasCause, IsNoRoot, IsNoStateText}
pub use Rattle.embed.specs.Outcomes.{AreCounted, AreListed, AreNeeds, IsFirst, IsListing, IsNext, IsVerified}
pub use Rattle.embed.specs.Trusted.{AreTrusted}
use Rattle.embed.specs.declared.fault.JobFault.{JobFault}
use Rattle.embed.specs.declared.fault.JobFault.TheVariants as fault
use Rattle.embed.specs.declared.fetching.Missing.{Missing}
use Rattle.embed.specs.declared.job.Job.{Job}
use Rattle.embed.specs.declared.listing.Listing.{Listing}
use Rattle.embed.specs.declared.rows.ListedRow.{ListedRow}
use Rattle.embed.specs.declared.rows.NeedRow.{NeedRow}
use Rattle.embed.specs.declared.rows.RoleRow.{RoleRow}
use Rattle.embed.specs.declared.rows.VerdictRow.{VerdictRow}
use Rattle.embed.specs.declared.verifying.Verification.{Verification}
use Rattle.tufcheck_c.specs.declared.answer.Answer.{Answer}
use Rattle.tufcheck_c.specs.declared.listed.Listed.{Listed}
use Rattle.tufcheck_c.specs.declared.fetching.Needs.{Needs}
use Rattle.tufcheck_c.specs.declared.sized.SizedJob.{SizedJob}

-- # The result of a call.

-- a result from 0 on is a status, for which more holds
abbrev pub IfStatus : ℤ → (ℕ → Type 0) → Type 0
IfStatus (pos status) P = P status
IfStatus (negsuc n) P = Unit {0}

-- a result below 0 is an error, for which more holds
abbrev pub IfError : ℤ → Type 0 → Type 0
IfError (pos status) P = Unit {0}
IfError (negsuc n) P = P

-- a status up to the greatest, or -1 to -7
abbrev pub IsResult : ℕ → ℤ → Type 0
IsResult greatest (pos status) = status ≤ greatest
IsResult greatest (negsuc n) = n ≤ 6

-- the number of a fault, -1 to -5
abbrev pub number_of : JobFault → ℤ
number_of fault.Memory = negsuc 0
number_of fault.State = negsuc 1
number_of fault.Name = negsuc 2
number_of fault.Moment = negsuc 3
number_of fault.Limit = negsuc 4

-- -6, some room is too small
abbrev pub no_room : ℤ
no_room = negsuc 5

-- -7, a struct has another size
abbrev pub no_size : ℤ
no_size = negsuc 6

-- the job has its size in this version, and so has the answer
abbrev pub is_sized : SizedJob → ℕ → ℕ → Bool
is_sized job size own = (job.size == 104) && (size == own)

-- # Rooms stay where they are, and as long.

abbrev pub IsSameRoom : {A : Type 0} → MutBor (List A) → MutBor (List A) → Type 0
IsSameRoom old new = (new.ref_ptr ≡ old.ref_ptr) × (length new.now ≡ length old.now)

-- # The answer of a verification.

-- the rooms hold what they held
pub record KeepsRooms (old new : Answer) : Type 0 where
  pub state : new.state.now ≡ old.state.now
  pub verdicts : new.verdicts.now ≡ old.verdicts.now
  pub roles : new.roles.now ≡ old.roles.now
  pub names : new.names.now ≡ old.names.now

pub record SameRooms (old new : Answer) : Type 0 where
  pub size : new.size ≡ old.size
  pub state : IsSameRoom old.state new.state
  pub verdicts : IsSameRoom old.verdicts new.verdicts
  pub roles : IsSameRoom old.roles new.roles
  pub names : IsSameRoom old.names new.names

-- there is room for as much as the summary counts
abbrev pub has_room : Answer → Bool
has_room a =
    nat_le a.summary.state_len (length a.state.now)
    && nat_le a.summary.verdict_count (length a.verdicts.now)
    && nat_le a.summary.role_count (length a.roles.now)
    && nat_le a.summary.name_len (length a.names.now)

-- what is first in each room, as much as the summary counts, is the verification
pub record IsWritten (v : Verification) (status : ℕ) (a : Answer) : Type 0 where
  pub of_status : status ≡ v.status
  pub of_summary : a.summary ≡ v.summary
  pub of_state : take a.summary.state_len a.state.now ≡ v.state.items
  pub of_verdicts : take a.summary.verdict_count a.verdicts.now ≡ v.verdicts.items
  pub of_roles : take a.summary.role_count a.roles.now ≡ v.roles.items
  pub of_names : take a.summary.name_len a.names.now ≡ v.names.items

-- what is first in each room, as much as the summary counts, is the workflow's outcome for the job
abbrev pub IsAnswered : Job → ℕ → Answer → Type 0
IsAnswered job status a =
    IsVerified job status a.summary
    (take a.summary.state_len a.state.now) (take a.summary.verdict_count a.verdicts.now)
    (take a.summary.role_count a.roles.now) (take a.summary.name_len a.names.now)

-- there is an outcome, some room is too small for it, and the summary counts how much it takes
pub record IsShort (job : Job) (a : Answer) : Type 0 where
  pub status : ℕ
  pub text : List ℕ
  pub verdicts : List VerdictRow
  pub roles : List RoleRow
  pub names : List ℕ
  pub verified : IsVerified job status a.summary text verdicts roles names
  pub counted : AreCounted a.summary text verdicts roles names
  pub short : has_room a ≡ false

-- # The answer of a listing.

pub record KeepsListed (old new : Listed) : Type 0 where
  pub state : new.state.now ≡ old.state.now
  pub rows : new.rows.now ≡ old.rows.now
  pub names : new.names.now ≡ old.names.now

pub record SameListed (old new : Listed) : Type 0 where
  pub size : new.size ≡ old.size
  pub state : IsSameRoom old.state new.state
  pub rows : IsSameRoom old.rows new.rows
  pub names : IsSameRoom old.names new.names

abbrev pub has_listed_room : Listed → Bool
has_listed_room a =
    nat_le a.summary.state_len (length a.state.now)
    && nat_le a.summary.verdict_count (length a.rows.now)
    && nat_le a.summary.name_len (length a.names.now)

-- what is first in each room, as much as the summary counts, is the listing
pub record IsPut (l : Listing) (status : ℕ) (a : Listed) : Type 0 where
  pub of_status : status ≡ l.status
  pub of_summary : a.summary ≡ l.summary
  pub of_state : take a.summary.state_len a.state.now ≡ l.state.items
  pub of_rows : take a.summary.verdict_count a.rows.now ≡ l.rows.items
  pub of_names : take a.summary.name_len a.names.now ≡ l.names.items

-- what is first in each room, as much as the summary counts, is the course of the job
abbrev pub IsListed : Job → ℕ → Listed → Type 0
IsListed job status a =
    IsListing job status a.summary (take a.summary.state_len a.state.now)
    (take a.summary.verdict_count a.rows.now) (take a.summary.name_len a.names.now)

-- there is a listing, some room is too small for it, and the summary counts how much it takes
pub record IsListedShort (job : Job) (a : Listed) : Type 0 where
  pub status : ℕ
  pub text : List ℕ
  pub rows : List ListedRow
  pub names : List ℕ
  pub listing : IsListing job status a.summary text rows names
  pub counted : AreListed a.summary text rows names
  pub short : has_listed_room a ≡ false

-- # The answer of the files to fetch.

pub record KeepsNeeds (old new : Needs) : Type 0 where
  pub rows : new.rows.now ≡ old.rows.now
  pub names : new.names.now ≡ old.names.now

pub record SameNeeds (old new : Needs) : Type 0 where
  pub size : new.size ≡ old.size
  pub rows : IsSameRoom old.rows new.rows
  pub names : IsSameRoom old.names new.names

abbrev pub has_needs_room : Needs → Bool
has_needs_room a =
    nat_le a.summary.verdict_count (length a.rows.now)
    && nat_le a.summary.name_len (length a.names.now)

-- what is first in each room, as much as the summary counts, is what is missing
pub record AreWritten (m : Missing) (status : ℕ) (a : Needs) : Type 0 where
  pub of_status : status ≡ m.status
  pub of_summary : a.summary ≡ m.summary
  pub of_rows : take a.summary.verdict_count a.rows.now ≡ m.rows.items
  pub of_names : take a.summary.name_len a.names.now ≡ m.names.items

-- what is first in each room, as much as the summary counts, are the job's files to fetch
abbrev pub IsNeeded : Job → ℕ → Needs → Type 0
IsNeeded job status a =
    IsNext job status a.summary (take a.summary.verdict_count a.rows.now)
    (take a.summary.name_len a.names.now)

-- some room is too small for the files, and the summary counts how much they take
pub record IsNeedsShort (job : Job) (a : Needs) : Type 0 where
  pub status : ℕ
  pub rows : List NeedRow
  pub names : List ℕ
  pub next : IsNext job status a.summary rows names
  pub counted : AreNeeds a.summary rows names
  pub short : has_needs_room a ≡ false

-- # The answer of a first state.

-- the text of the first state is longer than the room
pub record IsFirstShort (root room : List ℕ) (len : ℕ) : Type 0 where
  pub text : List ℕ
  pub first : IsFirst root text
  pub counted : len ≡ length text
  pub short : nat_le len (length room) ≡ false
