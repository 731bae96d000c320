-- Messages that lanes take block after block.
use Rattle.std.specs.Prelude.{◌≡◌, ℕ, ◌+◌, ◌*◌, ◌/◌, ◌≤◌, List, length, drop}
use Rattle.sha2.specs.Sha256.{hash_after, initial_hash_256}
use Rattle.lanes.specs.declared.pending.Pending.{Pending}
use Rattle.lanes.specs.declared.pending.TheConstants.{ROOM}

-- the hash value after the whole blocks of a message (FIPS 180-4, 6.2.2)
abbrev pub IsAfter : List ℕ → List ℕ → Type 0
IsAfter hash m = hash ≡ hash_after initial_hash_256 m (length m / 64)

-- blocks that are within the room
pub record IsPending (p : Pending) : Type 0 where
  pub size : length p.bytes.items ≡ ROOM
  pub within : p.at + 64 * p.left ≤ ROOM

-- the hash value will be that after the whole blocks of the message, once the lane has taken the
-- blocks that it has left
abbrev pub Reaches : List ℕ → Pending → List ℕ → Type 0
Reaches hash p m = IsAfter (hash_after hash (drop p.at p.bytes.items) p.left) m
