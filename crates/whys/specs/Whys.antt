-- The lines of why something is refused.
use Rattle.std.specs.Prelude.{◌≡◌, ℕ, ◌-◌, Bool, true, false, List, [], ◌∷◌, ◌++◌, if◌then◌else◌, codes, decimal, flat_map, length, take, Option, Some, None}
use Rattle.std.specs.Option.{option_map_or}
use Rattle.hex.specs.Hex.{encode_lower}
use Rattle.moment.specs.Moment.{Moment}
use Rattle.meta.specs.Content.{hashed_name}
use Rattle.meta.specs.Metadata.{Root, Snapshot}
use Rattle.meta.specs.declared.targets.Target.{Target}
use Rattle.examine.specs.Checks.{Files, targets_part}
use Rattle.rolechain.specs.Advance.{State, advanced, due_targets, stops}
use Rattle.rolechain.specs.declared.end.Step.{Step}
use Rattle.meta.specs.declared.fault.Fault.{Fault}
use Rattle.failure.specs.Failures.{line}
use Rattle.inout.specs.Moments.{moment_text}
use Rattle.inout.specs.Quoted.{cut_text}
use Rattle.folder.specs.declared.measure.Measure.{Measure}
use Rattle.reasons.specs.Reasons.{By, fault_in, fault_of, reason_in}
use Rattle.reasons.specs.Stops.{role_stop, stop}
use Rattle.reasons.specs.Targets.{measure_check}
use Rattle.reasons.specs.declared.reason.Below.{Below}
use Rattle.reasons.specs.declared.reason.Differing.{Differing}
use Rattle.reasons.specs.declared.reason.Malformation.{Malformation}
use Rattle.reasons.specs.declared.reason.Malformation.TheVariants as malformed
use Rattle.reasons.specs.declared.reason.NameFall.{NameFall}
use Rattle.reasons.specs.declared.reason.Reason.{Reason}
use Rattle.reasons.specs.declared.reason.Reason.TheVariants as reason
use Rattle.reasons.specs.declared.reason.Sha256Pair.{Sha256Pair}
use Rattle.reasons.specs.declared.reason.Sha512Pair.{Sha512Pair}
use Rattle.reasons.specs.declared.reason.TimestampFall.{TimestampFall}
use Rattle.whys.specs.Places.{role_place, stop_place, target_place}
use Rattle.whys.specs.Signed.{more_text, signing_text}
use Rattle.whys.specs.declared.place.Listings.{Listings}
use Rattle.whys.specs.declared.place.Place.{Place}

-- # Single lines.

abbrev pub why : List (List ℕ) → List ℕ
why words = line (codes "why" ∷ words)

-- `why file NAME LENGTH`, if there is such a file
abbrev pub file_text : List ℕ → Option ℕ → List ℕ
file_text name None = []
file_text name (Some n) = why (codes "file" ∷ cut_text name ∷ decimal n ∷ [])

-- `why absent NAME`
abbrev pub absent_text : List ℕ → List ℕ
absent_text name = why (codes "absent" ∷ cut_text name ∷ [])

-- `why snapshot VERSION names N`
abbrev pub listings_text : Option Listings → List ℕ
listings_text None = []
listings_text (Some l) =
    why (codes "snapshot" ∷ decimal l.version ∷ codes "names" ∷ decimal l.names ∷ [])

-- `why WHAT N WORD M`
abbrev pub pair_text : List ℕ → ℕ → List ℕ → ℕ → List ℕ
pair_text what n word m = why (what ∷ decimal n ∷ word ∷ decimal m ∷ [])

-- `why ALGORITHM FOUND listed HEX`
abbrev pub digest_text : List ℕ → List ℕ → List ℕ → List ℕ
digest_text algorithm found listed =
    why (algorithm ∷ encode_lower found ∷ codes "listed" ∷ encode_lower listed ∷ [])

abbrev pub sha256_text : Option Sha256Pair → List ℕ
sha256_text None = []
sha256_text (Some p) = digest_text (codes "sha256") p.found p.listed

abbrev pub sha512_text : Option Sha512Pair → List ℕ
sha512_text None = []
sha512_text (Some p) = digest_text (codes "sha512") p.found p.listed

abbrev pub malformation_word : Malformation → List ℕ
malformation_word malformed.NotJson = codes "json"
malformation_word malformed.NotObject = codes "object"
malformation_word malformed.Float = codes "float"
malformation_word malformed.BadSignatures = codes "signatures"
malformation_word malformed.NotFormed = codes "form"

-- `why WHAT N trusted M`, if a number fell
abbrev pub below_text : List ℕ → Option Below → List ℕ
below_text what None = []
below_text what (Some b) = pair_text what b.found (codes "trusted") b.trusted

-- `why name NAME gone`, or `why name NAME N trusted M`
abbrev pub fall_of_text : List ℕ → Option ℕ → ℕ → List ℕ
fall_of_text name None trusted = why (codes "name" ∷ name ∷ codes "gone" ∷ [])
fall_of_text name (Some n) trusted =
    why (codes "name" ∷ name ∷ decimal n ∷ codes "trusted" ∷ decimal trusted ∷ [])

abbrev pub fall_text : NameFall → List ℕ
fall_text f = fall_of_text (cut_text f.name) f.found f.trusted

-- the most names that have a line
abbrev pub most_names : ℕ
most_names = 64

-- a line for each name, up to the most, and then `why more N`
abbrev pub falls_text : List NameFall → List ℕ
falls_text fs =
    flat_map fall_text (take most_names fs) ++ more_text (length fs - most_names)

-- `WORDS expires TEXT moment TEXT`
abbrev pub expires_text : List ℕ → Moment → Moment → List ℕ
expires_text words expires now =
    line (words ∷ codes "expires" ∷ moment_text expires ∷ codes "moment" ∷ moment_text now ∷ [])

-- # The lines of a reason.

abbrev pub reason_text : Place → Reason → List ℕ
reason_text p reason.NotListed = listings_text p.snapshot
reason_text p reason.Missing = absent_text p.file
reason_text p (reason.TooLong n most) = pair_text (codes "length") n (codes "most") most
reason_text p (reason.LengthWrong n m) = pair_text (codes "length") n (codes "listed") m
reason_text p (reason.HashWrong d) = sha256_text d.sha256 ++ sha512_text d.sha512
reason_text p reason.NoKnownHash = []
reason_text p (reason.Malformed m) = why (malformation_word m ∷ [])
reason_text p (reason.Unsigned s) = signing_text p.by s
reason_text p (reason.OwnUnsigned s) = signing_text p.file s
reason_text p (reason.VersionWrong n due) = pair_text (codes "version") n (codes "expected") due
reason_text p (reason.TimestampFell f) =
    below_text (codes "version") f.version ++ below_text (codes "snapshot") f.snapshot
reason_text p (reason.SnapshotFell fs) = falls_text fs
reason_text p (reason.Expired expires now) = expires_text (codes "why") expires now
reason_text p (reason.TrustedExpired expires now) =
    expires_text (codes "why trusted") expires now

-- the reason is of the file in the folder, and not of its absence or of a trusted file
abbrev pub is_of_file : Reason → Bool
is_of_file reason.NotListed = false
is_of_file reason.Missing = false
is_of_file (reason.TrustedExpired expires now) = false
is_of_file other = true

-- the file, if the reason is of it, and then the reason
abbrev pub refusal_text : Place → Reason → List ℕ
refusal_text p r = (if is_of_file r then file_text p.file p.length else []) ++ reason_text p r

-- # The lines of a refusal: none if there is none.

abbrev pub lines_of : Place → Option Reason → List ℕ
lines_of p o = option_map_or (refusal_text p) o []

-- of a stop, from the state that it left
abbrev pub stop_text : Files → Moment → State → Step → Fault → List ℕ
stop_text files now s at fault =
    lines_of (stop_place files s at) (reason_in (stop files now s at fault))

-- of a role's file, by the keys of a file of that name
abbrev pub role_text : Files → Moment → Root → Snapshot → List ℕ → By → List ℕ → List ℕ
role_text files now top snap name by file =
    lines_of (role_place files top snap name by file)
    (reason_in (role_stop files now top snap name by))

-- ---- a target's file

-- under a digest, if it is listed
abbrev pub under_text : List ℕ → Option (List ℕ) → List ℕ
under_text path digest = flat_map absent_text (hashed_name path digest)

-- each name that was looked up
abbrev pub names_text : Bool → Target → List ℕ
names_text consistent t =
    if consistent then under_text t.path t.hashes.sha256 ++ under_text t.path t.hashes.sha512
    else absent_text t.path

-- by the name and the measure of the file, if there is one
abbrev pub target_text : Bool → Target → Option (List ℕ × Measure) → List ℕ
target_text consistent t None = names_text consistent t
target_text consistent t (Some (name, m)) =
    lines_of (target_place name m) (reason_in (measure_check t m))

-- ---- the law

-- the text is that of a reason of the fault
pub record IsWhy (p : Place) (f : Fault) (text : List ℕ) : Type 0 where
  pub reason : Reason
  pub fault : fault_of reason ≡ f
  pub lines : text ≡ refusal_text p reason

-- the same, if there is a fault; there are no lines without one
abbrev pub IsWhyIf : Place → Option Fault → List ℕ → Type 0
IsWhyIf p None text = text ≡ []
IsWhyIf p (Some f) text = IsWhy p f text

-- the text is that of a reason of the stop, whatever state such a cycle began with
abbrev pub IsStopWhy : Files → Moment → State → Step → Fault → List ℕ → Type 0
IsStopWhy files now s at fault text = (from : State)
    → advanced files now from ≡ stops s at fault → IsWhy (stop_place files s at) fault text

-- it is that of a reason of the fault of a role's file, if there is one
abbrev pub IsRoleWhy : Files → Moment → Root → Snapshot → List ℕ → By → List ℕ → List ℕ → Type 0
IsRoleWhy files now top snap name by file text =
    IsWhyIf (role_place files top snap name by file)
    (fault_in (targets_part (due_targets top snap name by.ring by.role) files now)) text
