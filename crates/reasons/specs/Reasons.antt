-- Why a metadata file is refused: the first check that it fails, with what this check compared (TUF
-- 1.0 sections 5.3 to 5.7). The checks are those of `Checks`, in the same order.
use Rattle.std.specs.Prelude.{◌≡◌, ℕ, ◌==◌, ◌||◌, Bool, true, false, not, nat_lt, if◌then◌else◌, List, [], ◌∷◌, ◌++◌, fold, length, codes, unwrap_or, Option, Some, None, is_some, option_map, option_and_then, find, bytes_eq, Result, Ok, Err, ⊤}
use Rattle.std.specs.FinSet as set
use Rattle.std.specs.Option.{option_map_or}
use Rattle.serde_json.specs.Find.{get}
use Rattle.cjson.specs.Document.{◌>>=◌, Document, document, refuse_if, or_refuse, doc_of}
use Rattle.cjson.specs.Form.{Data}
use Rattle.cjson.specs.Tree.{view}
use Rattle.cjson.specs.declared.fault.DocFault.{DocFault}
use Rattle.cjson.specs.declared.fault.DocFault.TheVariants as document
use Rattle.keys.specs.Keys.{digest_by, is_met, signers}
use Rattle.keys.specs.declared.judge.Algorithm.TheVariants.{Sha256, Sha512}
use Rattle.keys.specs.declared.key.Key.{Key}
use Rattle.keys.specs.declared.role_keys.RoleKeys.{RoleKeys}
use Rattle.moment.specs.Moment.{Moment}
use Rattle.meta.specs.Metadata as form
use Rattle.meta.specs.Metadata.{Form, Root, Timestamp, Snapshot, Targets}
use Rattle.meta.specs.Content.{Part, has_no_known_hash, root_limit, timestamp_limit, snapshot_limit, targets_limit}
use Rattle.meta.specs.declared.fault.Fault.{Fault}
use Rattle.meta.specs.declared.fault.Fault.TheVariants as fault
use Rattle.meta.specs.declared.hashes.Hashes.{Hashes}
use Rattle.meta.specs.declared.header.Header.{Header}
use Rattle.meta.specs.declared.snapshot.Named.{Named}
use Rattle.examine.specs.Checks.{Files, Expectation, Candidate, is_absent, listed_length, listed_hashes, listed_version, is_expired, is_again, lists_less}
use Rattle.signing.specs.Signers.{findings, id_count}
use Rattle.signing.specs.declared.signing.Required.{Required}
use Rattle.signing.specs.declared.signing.Signing.{Signing}
use Rattle.reasons.specs.declared.reason.Malformation.{Malformation}
use Rattle.reasons.specs.declared.reason.Malformation.TheVariants as malformed
use Rattle.reasons.specs.declared.reason.Sha256Pair.{Sha256Pair}
use Rattle.reasons.specs.declared.reason.Sha512Pair.{Sha512Pair}
use Rattle.reasons.specs.declared.reason.Differing.{Differing}
use Rattle.reasons.specs.declared.reason.Below.{Below}
use Rattle.reasons.specs.declared.reason.TimestampFall.{TimestampFall}
use Rattle.reasons.specs.declared.reason.NameFall.{NameFall}
pub use Rattle.reasons.specs.declared.reason.Reason.{Reason}
use Rattle.reasons.specs.declared.reason.Reason.TheVariants as reason
use Rattle.reasons.specs.declared.reason.Ended.{Ended}
use Rattle.reasons.specs.declared.reason.Ended.TheVariants as ended
use Rattle.reasons.specs.declared.fetched.Candidate as program

-- # Who had to sign, and who did (TUF 1.0 sections 4.2 and 4.3).

-- the object of keys of the file that delegates, its usable keys, and the ids of those that may
-- sign with their threshold
pub record By : Type 0 where
  pub keys : Data
  pub ring : List Key
  pub role : RoleKeys

abbrev pub signing_by : By → Document → Signing
signing_by by doc = record {
  is_met = is_met doc.text doc.entries by.ring by.role;
  threshold = by.role.threshold;
  signed = set.len (signers doc.text doc.entries by.ring by.role);
  listed = id_count by.role;
  keys = findings doc.text doc.entries by.keys by.ring by.role;
}

-- by the keys of the file that is expected to have signed
abbrev pub expected_by : Expectation → Data → By
expected_by e keys = record { keys = keys; ring = e.ring; role = e.role }

-- the object of keys of what a root signs; without one all of it
abbrev pub keys_in : Data → Data
keys_in signed = unwrap_or (get (codes "keys") signed) signed

-- the keys that a root lists for roots
abbrev pub own_by : Root → Document → By
own_by root doc = record { keys = keys_in doc.signed; ring = root.ring; role = root.root }

-- # What the checks compare.

-- ---- digests (section 4.4)

-- the listed digest and that of the bytes, if they differ
abbrev pub sha256_pair : Option (List ℕ) → List ℕ → Option Sha256Pair
sha256_pair None found = None
sha256_pair (Some listed) found =
    if bytes_eq listed found then None else Some (record { found = found; listed = listed })

abbrev pub sha512_pair : Option (List ℕ) → List ℕ → Option Sha512Pair
sha512_pair None found = None
sha512_pair (Some listed) found =
    if bytes_eq listed found then None else Some (record { found = found; listed = listed })

abbrev pub differing : Hashes → List ℕ → Differing
differing h bytes = record {
  sha256 = sha256_pair h.sha256 (digest_by Sha256 bytes);
  sha512 = sha512_pair h.sha512 (digest_by Sha512 bytes);
}

abbrev pub has_difference : Differing → Bool
has_difference d = is_some d.sha256 || is_some d.sha512

-- ---- versions

-- a lower number than the trusted one
abbrev pub below : ℕ → ℕ → Option Below
below found trusted =
    if nat_lt found trusted then Some (record { found = found; trusted = trusted }) else None

abbrev pub timestamp_fall : Timestamp → Timestamp → TimestampFall
timestamp_fall old new = record {
  version = below new.header.version old.header.version;
  snapshot = below new.snapshot.version old.snapshot.version;
}

abbrev pub has_fall : TimestampFall → Bool
has_fall f = is_some f.version || is_some f.snapshot

-- the version of the first file of that name
abbrev pub version_of : List Named → List ℕ → Option ℕ
version_of files name =
    option_map (λ n. n.listing.version) (find (λ n. bytes_eq n.name name) files)

-- none, or one below the trusted one
abbrev pub is_fallen : Option ℕ → ℕ → Bool
is_fallen found trusted = option_map_or (λ version. nat_lt version trusted) found true

-- a trusted name, and the version that it has now, if it has one
abbrev pub name_fall : List Named → Named → NameFall
name_fall files old = record {
  name = old.name;
  trusted = old.listing.version;
  found = version_of files old.name;
}

-- these and the trusted name, if it is missing or has a lower version
abbrev pub with_fall : List Named → List NameFall → Named → List NameFall
with_fall files all old =
    if is_fallen (version_of files old.name) old.listing.version
    then all ++ name_fall files old ∷ [] else all

-- the trusted names that are missing or have a lower version
abbrev pub name_falls : Snapshot → Snapshot → List NameFall
name_falls old new = fold (with_fall new.files) [] old.files

-- # The checks, in order. The result is that of the first that fails.

-- ---- length and digests (sections 5.5.1, 5.5.2 and 5.6.2)

abbrev pub limit_check : ℕ → List ℕ → Result ⊤ Reason
limit_check most bytes =
    refuse_if (nat_lt most (length bytes)) (reason.TooLong (length bytes) most)

-- of a number of bytes
abbrev pub size_check : ℕ → ℕ → Result ⊤ Reason
size_check listed found = refuse_if (not (listed == found)) (reason.LengthWrong found listed)

abbrev pub length_check : Option ℕ → List ℕ → Result ⊤ Reason
length_check None bytes = Ok tt
length_check (Some n) bytes = size_check n (length bytes)

-- of the digests that differ
abbrev pub digest_check : Hashes → Differing → Result ⊤ Reason
digest_check h found = do
  same ← refuse_if (has_difference found) (reason.HashWrong found)
  refuse_if (has_no_known_hash h) reason.NoKnownHash

abbrev pub hash_check : Option Hashes → List ℕ → Result ⊤ Reason
hash_check None bytes = Ok tt
hash_check (Some h) bytes = digest_check h (differing h bytes)

abbrev pub content_check : ℕ → Option ℕ → Option Hashes → List ℕ → Result ⊤ Reason
content_check most size hashes bytes = do
  short ← limit_check most bytes
  sized ← length_check size bytes
  hash_check hashes bytes

-- ---- form and signatures (sections 5.3.4, 5.4.2, 5.5.3 and 5.6.3)

abbrev pub malformation : DocFault → Malformation
malformation document.NotJson = malformed.NotJson
malformation document.NotObject = malformed.NotObject
malformation document.Float = malformed.Float
malformation document.BadSignatures = malformed.BadSignatures
malformation document.NoMemory = malformed.NotJson

abbrev pub or_malformed : {A : Type 0} → Result A DocFault → Result A Reason
or_malformed (Ok x) = Ok x
or_malformed (Err fault) = Err (reason.Malformed (malformation fault))

abbrev pub read_check : {A : Type 0} → Form A → List ℕ → Result (Candidate A) Reason
read_check form bytes = do
  doc ← or_malformed (document bytes)
  reading ← or_refuse (form doc.signed) (reason.Malformed malformed.NotFormed)
  Ok (record { part = record { bytes = bytes; reading = reading }; doc = doc })

abbrev pub signed_check : By → Document → Result ⊤ Reason
signed_check by doc =
    refuse_if (not (signing_by by doc).is_met) (reason.Unsigned (signing_by by doc))

-- the expected file from the repository, signed as expected, by keys of that object
abbrev pub signed_candidate : {A : Type 0} → Form A → ℕ → Expectation → Data → Files
    → Result (Candidate A) Reason
signed_candidate form limit e keys files = do
  listed ← refuse_if (is_absent e.listed) reason.NotListed
  bytes ← or_refuse (files e.name) reason.Missing
  intact ← content_check limit (listed_length e.listed) (listed_hashes e.listed) bytes
  c ← read_check form bytes
  signed ← signed_check (expected_by e keys) c.doc
  Ok c

-- ---- version, rollback and expiry (sections 5.3.5, 5.4.3, 5.4.4, 5.5.4 to 5.5.6, 5.6.4, 5.6.5)

abbrev pub version_check : Option ℕ → Header → Result ⊤ Reason
version_check None h = Ok tt
version_check (Some due) h = refuse_if (not (due == h.version)) (reason.VersionWrong h.version due)

abbrev pub expiry_check : Header → Moment → Result ⊤ Reason
expiry_check h now = refuse_if (is_expired h now) (reason.Expired h.expires now)

-- the same of a trusted file
abbrev pub trusted_check : Header → Moment → Result ⊤ Reason
trusted_check h now = refuse_if (is_expired h now) (reason.TrustedExpired h.expires now)

abbrev pub timestamp_order : Timestamp → Timestamp → Result ⊤ Reason
timestamp_order old new =
    refuse_if (has_fall (timestamp_fall old new)) (reason.TimestampFell (timestamp_fall old new))

abbrev pub snapshot_order : Option Snapshot → Snapshot → Result ⊤ Reason
snapshot_order None new = Ok tt
snapshot_order (Some old) new =
    refuse_if (lists_less old new) (reason.SnapshotFell (name_falls old new))

-- ---- the files of each kind

-- enough of its own keys signed it, and it has the version that is due (sections 5.3.4 and 5.3.5)
abbrev pub root_order : ℕ → Root → Signing → Result ⊤ Reason
root_order due root s = do
  own ← refuse_if (not s.is_met) (reason.OwnUnsigned s)
  version_check (Some due) root.header

-- section 5.3
abbrev pub root_check : Expectation → Data → ℕ → Files → Result (Part Root) Reason
root_check e keys due files = do
  c ← signed_candidate form.root root_limit e keys files
  let root = c.part.reading
  ordered ← root_order due root (signing_by (own_by root c.doc) c.doc)
  Ok c.part

-- section 5.4, if no timestamp is trusted
abbrev pub first_check : Expectation → Data → Files → Moment → Result (Part Timestamp) Reason
first_check e keys files now = do
  c ← signed_candidate form.timestamp timestamp_limit e keys files
  current ← expiry_check c.part.reading.header now
  Ok c.part

abbrev pub later_check : Timestamp → Part Timestamp → Moment
    → Result (Option (Part Timestamp)) Reason
later_check old p now = if is_again old p.reading then Ok None else do
  onward ← timestamp_order old p.reading
  current ← expiry_check p.reading.header now
  Ok (Some p)

-- section 5.4, beside the trusted timestamp
abbrev pub next_check : Expectation → Data → Timestamp → Files → Moment
    → Result (Option (Part Timestamp)) Reason
next_check e keys old files now = do
  c ← signed_candidate form.timestamp timestamp_limit e keys files
  later_check old c.part now

-- section 5.5
abbrev pub snapshot_check : Expectation → Data → Option Snapshot → Files → Moment
    → Result (Part Snapshot) Reason
snapshot_check e keys old files now = do
  c ← signed_candidate form.snapshot snapshot_limit e keys files
  let new = c.part.reading
  versioned ← version_check (listed_version e.listed) new.header
  onward ← snapshot_order old new
  current ← expiry_check new.header now
  Ok c.part

-- sections 5.6 and 5.7
abbrev pub targets_check : Expectation → Data → Files → Moment → Result (Part Targets) Reason
targets_check e keys files now = do
  c ← signed_candidate form.targets targets_limit e keys files
  versioned ← version_check (listed_version e.listed) c.part.reading.header
  current ← expiry_check c.part.reading.header now
  Ok c.part

-- # The fault that a reason is of.

abbrev pub fault_of : Reason → Fault
fault_of reason.NotListed = fault.NotListed
fault_of reason.Missing = fault.Missing
fault_of (reason.TooLong found most) = fault.TooLong
fault_of (reason.LengthWrong found listed) = fault.LengthWrong
fault_of (reason.HashWrong d) = fault.HashWrong
fault_of reason.NoKnownHash = fault.NoKnownHash
fault_of (reason.Malformed m) = fault.Malformed
fault_of (reason.Unsigned s) = fault.Unsigned
fault_of (reason.OwnUnsigned s) = fault.Unsigned
fault_of (reason.VersionWrong found due) = fault.VersionWrong
fault_of (reason.TimestampFell f) = fault.Rollback
fault_of (reason.SnapshotFell fs) = fault.Rollback
fault_of (reason.Expired expires now) = fault.Expired
fault_of (reason.TrustedExpired expires now) = fault.Expired

-- the result of the checks without the reason
abbrev pub plain : {A : Type 0} → Result A Reason → Result A Fault
plain (Ok x) = Ok x
plain (Err why) = Err (fault_of why)

-- the reason, if there is one
abbrev pub reason_in : Result ⊤ Reason → Option Reason
reason_in (Ok fine) = None
reason_in (Err why) = Some why

-- the fault, if there is one
abbrev pub fault_in : {A : Type 0} → Result A Fault → Option Fault
fault_in (Ok x) = None
fault_in (Err fault) = Some fault

-- # What the values of the program represent.

abbrev pub by : Required → By
by r = record { keys = view r.keys.now; ring = r.ring.now; role = r.role.now }

-- the same, as `seen` sees it; if it is out of memory, nothing is known
abbrev pub Explains : {A B : Type 0} → Result A Reason → Result B Ended → (B → A) → Type 0
Explains r (Ok x) seen = r ≡ Ok (seen x)
Explains r (Err (ended.Refused why)) seen = r ≡ Err why
Explains r (Err ended.NoMemory) seen = Unit {0}

-- the meaning of a file that was read
abbrev pub candidate_of : {A : Type 0} → program.Candidate A → Candidate A
candidate_of c = record { part = c.part; doc = doc_of c.doc }
