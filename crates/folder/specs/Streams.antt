-- Files that are measured side by side.
use Rattle.std.specs.Prelude.{ℕ, Bool, ◌≡◌, ◌≤◌, ◌<◌, ◌%◌, ◌⊎◌, true, false, if◌then◌else◌, Option, Some, IfSome, List, length, slice_index_or, All, string_bytes}
use Rattle.std.specs.Io.KnownBytes.{Consumes, IsAtEnd}
use Rattle.sha2.specs.Sha256.{padded_message}
use Rattle.lanes.specs.Lanes.{lane}
use Rattle.lanes.specs.Pending.{IsPending, Reaches}
use Rattle.lanes.specs.declared.pending.Pending.{Pending}
use Rattle.folder.specs.Measures.{IsMeasure, measure_of}
use Rattle.folder.specs.declared.job.Done.{Done}
use Rattle.folder.specs.declared.measure.Measure.{Measure}
use Rattle.folder.specs.declared.measure.Need.{Need}
use Rattle.folder.specs.declared.stream.Stream.{Stream}
use Rattle.folder.specs.declared.together.Lanes.{Lanes}

-- the measure is that of some bytes, and of those that the file has, if they are known
pub record IsMeasureIn (had : Option (List ℕ)) (need : Need) (m : Measure) : Type 0 where
  pub some : IsMeasure need m
  pub known : IfSome had (λ bytes. m ≡ measure_of need bytes)

-- a reader that begins with the bytes of the file, if they are known
abbrev pub IsOpened : Option (List ℕ) → Option (List ℕ) → Type 0
IsOpened had has = IfSome had (λ bytes. has ≡ Some bytes)

module _ {F : Type 0} where
  -- the bytes that were read of a file, and the padding after them once it has ended
  abbrev pub message : Stream F → List ℕ → List ℕ
  message s taken = if s.ended then padded_message taken else taken

  -- A file of which some bytes were read, no more than wanted: whole blocks, until no more are
  -- wanted or left. Its lane will have the hash value of their message.
  pub record IsStream (had has : Option (List ℕ)) (hash : List ℕ) (p : Pending) (s : Stream F)
      : Type 0 where
    pub taken : List ℕ
    pub counted : s.length ≡ length taken
    pub few : length taken ≤ s.need.up_to
    pub consumed : Consumes had has taken
    pub has_sha256 : s.need.sha256 ≡ true
    pub has_sha512 : s.need.sha512 ≡ false
    pub whole : s.ended ≡ false → length taken % 64 ≡ 0
    pub end : s.ended ≡ true → (s.need.up_to ≤ length taken) ⊎ IsAtEnd has
    pub reaches : Reaches hash p (message s taken)

  -- such a file whose lane has no blocks left, and that has ended or not
  pub record IsDrained (ended : Bool) (had has : Option (List ℕ)) (hash : List ℕ) (p : Pending)
      (s : Stream F) : Type 0 where
    pub left : p.left ≡ 0
    pub is_ended : s.ended ≡ ended
    pub stream : IsStream had has hash p s

-- measures of files whose bytes are known for some names
abbrev pub AreMeasured : (List ℕ → Option (List ℕ)) → List Done → Type 0
AreMeasured content done =
    All (λ d. IsMeasureIn (content (string_bytes d.name)) d.need d.measure) done

module _ {F : Type 0} where
  -- n lanes, each with a room and place for a file
  pub record AreRooms (n : ℕ) (lanes : Lanes F) : Type 0 where
    pub rooms : length lanes.rooms.items ≡ n
    pub streams : length lanes.streams.items ≡ n
    pub pending : All IsPending lanes.rooms.items

module _ {F : Type 0} (content : List ℕ → Option (List ℕ)) (remaining : F → Option (List ℕ)) where
  -- the file in a lane with that hash value and these blocks left, if there is one
  abbrev pub IsInLane : List ℕ → Pending → Option (Stream F) → Type 0
  IsInLane hash p o = IfSome o
      (λ s. IsStream (content (string_bytes s.name)) (remaining s.file) hash p s)

  -- n lanes with their files
  pub record AreLanes (n : ℕ) (state : List (List ℕ)) (lanes : Lanes F) : Type 0 where
    pub rooms : AreRooms n lanes
    pub files : (i : ℕ) (p : Pending) (o : Option (Stream F)) → i < n
        → IsInLane (lane i state) (slice_index_or lanes.rooms.items i p)
        (slice_index_or lanes.streams.items i o)
