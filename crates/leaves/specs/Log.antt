-- What a crash leaves after some events.
use Rattle.std.specs.Prelude.{◌≡◌, ◌||◌, ◌++◌, List, [], ◌∷◌, ℕ, Option, Some, None, Vec, Bool, true, false, bytes_eq, fold, length, take}
use Rattle.std.specs.declared.alloc.Global.{Global}
use Rattle.leaves.specs.Disk.{Left}
use Rattle.leaves.specs.declared.log.Event.{Event}
use Rattle.leaves.specs.declared.log.Event.TheVariants.{Storing, Stored, Handing}

-- the file is there, with this text
abbrev pub is_possible : List ℕ → Option (List ℕ) → Bool
is_possible text None = false
is_possible text (Some bytes) = bytes_eq bytes text

-- one event more
abbrev pub happens : Left → Event → Left
happens a (Storing text) = record {
  may_leave = λ file. a.may_leave file || is_possible text.items file;
  given = a.given;
}
happens a (Stored text) = record { may_leave = is_possible text.items; given = a.given }
happens a (Handing sig) = record { may_leave = a.may_leave; given = a.given ++ sig.items ∷ [] }

-- before them any file is possible, and none may be there
abbrev pub after : List Event → Left
after events = fold happens (record { may_leave = λ file. true; given = [] }) events

-- the first t of them, and all
abbrev pub after_first : List Event → ℕ → Left
after_first events t = after (take t events)

abbrev pub after_all : List Event → Left
after_all events = after_first events (length events)

-- # What is noted.

-- one event more was noted, of these bytes
abbrev pub Notes : (Vec ℕ Global → Event) → List ℕ → List Event → List Event → Type 0
Notes event bytes old new = (v : Vec ℕ Global) × (v.items ≡ bytes) × (new ≡ old ++ event v ∷ [])

-- the last event that was noted is that this text is stored
abbrev pub EndsStoring : List ℕ → List Event → Type 0
EndsStoring text log = (old : List Event) × Notes (λ v. Storing v) text old log

-- the last event that was noted is that this signature is handed out
abbrev pub EndsHanding : List ℕ → List Event → Type 0
EndsHanding sig log = (old : List Event) × Notes (λ v. Handing v) sig old log
