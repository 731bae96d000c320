-- The checks of one file, in order (TUF 1.0 sections 5.3 to 5.6). The result is that of the first
-- that fails.
use Rattle.std.specs.Prelude.{ℕ, ◌&&◌, ◌||◌, ◌==◌, nat_lt, nat_le, not, if◌then◌else◌, List, [], ◌∷◌, Bool, true, false, Option, Some, None, option_map, option_and_then, Result, Ok, ⊤, bytes_eq, String, Vec}
use Rattle.std.specs.BTreeMap.{BTreeMap, get_by_text}
use Rattle.std.specs.List.{list_any, list_all}
use Rattle.std.specs.Option.{option_map_or}
use Rattle.std.specs.declared.alloc.Global.{Global}
use Rattle.cjson.specs.Document.{◌>>=◌, refuse_if, or_refuse, doc_of}
use Rattle.keys.specs.Keys.{is_met}
use Rattle.moment.specs.Moment.{is_before}
pub use Rattle.meta.specs.Content.{Document, document_of, formed, content, target_names, Part, root_limit, timestamp_limit, snapshot_limit, targets_limit}
pub use Rattle.meta.specs.Metadata.{Moment, Key, RoleKeys, Form, Root, Timestamp, Snapshot, Targets}
use Rattle.meta.specs.Metadata as form
pub use Rattle.meta.specs.declared.targets.Target.{Target}
pub use Rattle.meta.specs.declared.listing.Listing.{Listing}
use Rattle.meta.specs.declared.snapshot.Named.{Named}
pub use Rattle.meta.specs.declared.fault.Fault.{Fault}
pub use Rattle.meta.specs.declared.fault.Fault.TheVariants.{NotListed, Missing, Unsigned, VersionWrong, Rollback, Expired}
use Rattle.meta.specs.declared.hashes.Hashes.{Hashes}
use Rattle.meta.specs.declared.header.Header.{Header}
use Rattle.examine.specs.declared.fetch.Candidate as fetch
use Rattle.examine.specs.declared.expectation.Listed.TheVariants.{Absent, As}
use Rattle.examine.specs.declared.expectation.Listed.{Listed}
use Rattle.examine.specs.declared.expectation.Expectation as program

-- the files of a repository by their names
abbrev pub Files : Type 0
Files = List ℕ → Option (List ℕ)

-- what is expected of a file, whatever its kind
pub record Expectation : Type 0 where
  pub name : List ℕ
  pub listed : Listed
  pub ring : List Key
  pub role : RoleKeys

-- ---- what is listed

abbrev pub is_absent : Listed → Bool
is_absent Absent = true
is_absent other = false

-- the listing, if the file is listed
abbrev pub listing : Listed → Option Listing
listing (As l) = Some l
listing other = None

abbrev pub listed_length : Listed → Option ℕ
listed_length l = option_and_then (λ l. l.length) (listing l)

abbrev pub listed_hashes : Listed → Option Hashes
listed_hashes l = option_and_then (λ l. l.hashes) (listing l)

abbrev pub listed_version : Listed → Option ℕ
listed_version l = option_map (λ l. l.version) (listing l)

-- ---- form and signatures

-- a file that was read, and the document that it is
pub record Candidate (A : Type 0) : Type 0 where
  pub part : Part A
  pub doc : Document

abbrev pub read_candidate : {A : Type 0} → Form A → List ℕ → Result (Candidate A) Fault
read_candidate form bytes = do
  doc ← document_of bytes
  reading ← formed form doc
  Ok (record { part = record { bytes = bytes; reading = reading }; doc = doc })

abbrev pub is_signed : List Key → RoleKeys → Document → Bool
is_signed ring role doc = is_met doc.text doc.entries ring role

-- ---- version, rollback and expiry

abbrev pub is_version_wrong : Option ℕ → Header → Bool
is_version_wrong None h = false
is_version_wrong (Some due) h = not (due == h.version)

-- it doesn't expire later than the moment
abbrev pub is_expired : Header → Moment → Bool
is_expired h now = not (is_before now h.expires)

-- a trusted file isn't expired (5.3.10)
abbrev pub expiry_check : Header → Moment → Result ⊤ Fault
expiry_check h now = refuse_if (is_expired h now) Expired

-- the trusted timestamp's version again
abbrev pub is_again : Timestamp → Timestamp → Bool
is_again old new = new.header.version == old.header.version

-- a version below the trusted one, or a listed snapshot below the one that was listed
abbrev pub is_earlier : Timestamp → Timestamp → Bool
is_earlier old new = nat_lt new.header.version old.header.version
    || nat_lt new.snapshot.version old.snapshot.version

-- the same name with no lower version
abbrev pub is_kept_by : Named → Named → Bool
is_kept_by old new = bytes_eq new.name old.name && nat_le old.listing.version new.listing.version

-- a trusted name that is missing or has a lower version
abbrev pub is_listed_below : List Named → Named → Bool
is_listed_below files old = list_all (λ new. not (is_kept_by old new)) files

abbrev pub lists_less : Snapshot → Snapshot → Bool
lists_less old new = list_any (is_listed_below new.files) old.files

-- # The ten checks of a file, in order. One that doesn't apply to the file is passed.

-- The expected file from the repository, signed as expected: whether it is listed, if that is
-- required (1), and there (2); the limit of its kind (3), its listed length (4, section 5.5.1) and
-- digests (5, sections 5.5.2 and 5.6.2); its form (6); and its signatures (7, sections 5.3.4,
-- 5.4.2, 5.5.3 and 5.6.3).
abbrev pub signed_candidate : {A : Type 0} → Form A → ℕ → Expectation → Files
    → Result (Candidate A) Fault
signed_candidate form limit e files = do
  listed ← refuse_if (is_absent e.listed) NotListed
  bytes ← or_refuse (files e.name) Missing
  intact ← content (Some limit) (listed_length e.listed) (listed_hashes e.listed) bytes
  c ← read_candidate form bytes
  signed ← refuse_if (not (is_signed e.ring e.role c.doc)) Unsigned
  Ok c

-- Of such a file: the version, if one is due (8, sections 5.5.4 and 5.6.4), a fall below what is
-- trusted (9, sections 5.4.3 and 5.5.5), and expiry (10, sections 5.4.4, 5.5.6 and 5.6.5).
abbrev pub in_order : Option ℕ → Bool → Header → Moment → Result ⊤ Fault
in_order due is_below h now = do
  versioned ← refuse_if (is_version_wrong due h) VersionWrong
  onward ← refuse_if is_below Rollback
  refuse_if (is_expired h now) Expired

-- ---- the files of each kind

-- A root is signed by the keys of the root before and by its own (5.3.4), and has the version that
-- is due (5.3.5). Only the last root's expiry is checked, when the chain has ended (5.3.6).
abbrev pub root_part : Expectation → ℕ → Files → Result (Part Root) Fault
root_part e due files = do
  c ← signed_candidate form.root root_limit e files
  let root = c.part.reading
  own ← refuse_if (not (is_signed root.ring root.root c.doc)) Unsigned
  versioned ← refuse_if (is_version_wrong (Some due) root.header) VersionWrong
  Ok c.part

-- a timestamp if none is trusted
abbrev pub first_timestamp : Expectation → Files → Moment → Result (Part Timestamp) Fault
first_timestamp e files now = do
  c ← signed_candidate form.timestamp timestamp_limit e files
  ordered ← in_order None false c.part.reading.header now
  Ok c.part

-- the timestamp if it is of no lower version than the trusted one, nor lists a snapshot of a lower
-- one; none if it has the same version
abbrev pub later_timestamp : Timestamp → Part Timestamp → Moment
    → Result (Option (Part Timestamp)) Fault
later_timestamp old p now = if is_again old p.reading then Ok None else do
  ordered ← in_order None (is_earlier old p.reading) p.reading.header now
  Ok (Some p)

-- a timestamp if one is trusted
abbrev pub next_timestamp : Expectation → Timestamp → Files → Moment
    → Result (Option (Part Timestamp)) Fault
next_timestamp e old files now = do
  c ← signed_candidate form.timestamp timestamp_limit e files
  later_timestamp old c.part now

-- a snapshot, which lists each name of the trusted one in no lower version
abbrev pub snapshot_part : Expectation → Option Snapshot → Files → Moment
    → Result (Part Snapshot) Fault
snapshot_part e old files now = do
  c ← signed_candidate form.snapshot snapshot_limit e files
  let new = c.part.reading
  let is_below = option_map_or (λ s. lists_less s new) old false
  ordered ← in_order (listed_version e.listed) is_below new.header now
  Ok c.part

-- a targets file, top-level or delegated
abbrev pub targets_part : Expectation → Files → Moment → Result (Part Targets) Fault
targets_part e files now = do
  c ← signed_candidate form.targets targets_limit e files
  ordered ← in_order (listed_version e.listed) false c.part.reading.header now
  Ok c.part

-- ---- the file of a target

-- the first of the names that is there
abbrev pub first_there : Files → List (List ℕ) → Option (List ℕ)
first_there files [] = None
first_there files (name ∷ names) = option_map_or Some (files name) (first_there files names)

abbrev pub target_file : Files → Bool → Target → Option (List ℕ)
target_file files consistent t =
    first_there files (target_names consistent t.path t.hashes.sha256 t.hashes.sha512)

-- # What the values of the program represent.

abbrev pub expectation : program.Expectation → Expectation
expectation e =
    record { name = e.name.now; listed = e.listed; ring = e.ring.now; role = e.role.now }

-- the file of a name
abbrev pub file_in : BTreeMap (String Global) (Vec ℕ Global) → Files
file_in files name = option_map (λ v. v.items) (get_by_text files name)

-- the meaning of a file that was fetched
abbrev pub candidate_of : {A : Type 0} → fetch.Candidate A → Candidate A
candidate_of c = record { part = c.part; doc = doc_of c.doc }
