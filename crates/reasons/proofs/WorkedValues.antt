-- Worked values of the definitions.
use Rattle.std.proofs.Common.{◌≡◌, ℕ, List, [], ◌∷◌, Some, None, Ok, Err, pos, refl, codes}
use Rattle.meta.specs.Metadata.{Snapshot, Timestamp}
use Rattle.meta.specs.declared.header.Header.{Header}
use Rattle.meta.specs.declared.snapshot.Named.{Named}
use Rattle.reasons.specs.Reasons.{length_check, limit_check, name_falls, sha256_pair, timestamp_order, version_check}
use Rattle.reasons.specs.declared.reason.Reason.TheVariants.{LengthWrong, TimestampFell, TooLong, VersionWrong}

abbrev at-version : ℕ → Header
at-version version = record { version = version; expires = record { day = pos 0; second = 0 } }

abbrev named : List ℕ → ℕ → Named
named name version = record { name = name; listing = record { version = version; length = None; hashes = None } }

abbrev snapshot : List Named → Snapshot
snapshot files = record { header = at-version 1; files = files }

abbrev timestamp : ℕ → ℕ → Timestamp
timestamp version listed = record { header = at-version version; snapshot = record { version = listed; length = None; hashes = None } }

-- the limit itself, and one byte more
within-limit : limit_check 3 (1 ∷ 2 ∷ 3 ∷ []) ≡ Ok tt
within-limit = refl

over-limit : limit_check 3 (1 ∷ 2 ∷ 3 ∷ 4 ∷ []) ≡ Err (TooLong 4 3)
over-limit = refl

other-length : length_check (Some 3) (1 ∷ 2 ∷ []) ≡ Err (LengthWrong 2 3)
other-length = refl

other-digest : sha256_pair (Some (1 ∷ 2 ∷ [])) (1 ∷ 3 ∷ []) ≡ Some (record { found = 1 ∷ 3 ∷ []; listed = 1 ∷ 2 ∷ [] })
other-digest = refl

other-version : version_check (Some 2) (at-version 3) ≡ Err (VersionWrong 3 2)
other-version = refl

-- the snapshot's version falls, the timestamp's own doesn't
snapshot-fell : timestamp_order (timestamp 5 4) (timestamp 6 3) ≡ Err (TimestampFell (record { version = None; snapshot = Some (record { found = 3; trusted = 4 }) }))
snapshot-fell = refl

-- a lower version, a name that is gone, one that stays, and one that is new
names-fell : name_falls (snapshot (named (codes "a") 2 ∷ named (codes "b") 3 ∷ named (codes "c") 1 ∷ [])) (snapshot (named (codes "a") 1 ∷ named (codes "c") 1 ∷ named (codes "d") 9 ∷ []))
    ≡ record { name = codes "a"; trusted = 2; found = Some 1 } ∷ record { name = codes "b"; trusted = 3; found = None } ∷ []
names-fell = refl
