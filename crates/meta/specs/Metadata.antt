-- The four kinds of metadata file, and their readings (TUF 1.0 sections 4.3 to 4.6).
use Rattle.std.specs.Prelude.{ℕ, List, length, Bool, if◌then◌else◌, take, false, Option, Some, None, is_some, unwrap_or, bytes_eq, codes}
use Rattle.serde_json.specs.Find.{as_str, as_bool, as_object}
pub use Rattle.cjson.specs.Form.{◌>>=◌, Data, Form, guard, all_members, has_text, needed, optional, list, members, text, greatest, whole, hex_bytes}
use Rattle.keys.specs.Keys.{ring, role_keys}
pub use Rattle.keys.specs.declared.role_keys.RoleKeys.{RoleKeys}
pub use Rattle.keys.specs.declared.key.Key.{Key}
pub use Rattle.moment.specs.Moment.{Moment, moment_of}
use Rattle.meta.specs.Patterns.{is_pattern, is_prefix}
use Rattle.meta.specs.declared.delegations.Delegations.{Delegations}
use Rattle.meta.specs.declared.targets.Target.{Target}
use Rattle.meta.specs.declared.delegation.Paths.{Paths}
use Rattle.meta.specs.declared.delegation.Paths.TheVariants.{Patterns, Prefixes}
use Rattle.meta.specs.declared.delegation.Delegation.{Delegation}
use Rattle.meta.specs.declared.listing.Listing.{Listing}
use Rattle.meta.specs.declared.delegations.Roles.TheVariants.{Listed, Binned}
use Rattle.meta.specs.declared.delegations.Roles.{Roles}
use Rattle.meta.specs.declared.snapshot.Named.{Named}
use Rattle.meta.specs.declared.hashes.Hashes.{Hashes}
use Rattle.meta.specs.declared.header.Header.{Header}
use Rattle.meta.specs.declared.delegations.Bins.{Bins}

-- section 4.3
pub record Root : Type 0 where
  pub header : Header
  pub ring : List Key
  pub root : RoleKeys
  pub timestamp : RoleKeys
  pub snapshot : RoleKeys
  pub targets : RoleKeys
  pub consistent : Bool

-- section 4.6
pub record Timestamp : Type 0 where
  pub header : Header
  pub snapshot : Listing

-- section 4.4
pub record Snapshot : Type 0 where
  pub header : Header
  pub files : List Named

-- section 4.5
pub record Targets : Type 0 where
  pub header : Header
  pub targets : List Target
  pub delegations : Option Delegations

-- the text, if it passes the test
abbrev pub text_that : (List ℕ → Bool) → Form (List ℕ)
text_that test d = do
  found ← as_str d
  if test found then Some found else None

abbrev pub begins_with : List ℕ → List ℕ → Bool
begins_with start whole = bytes_eq (take (length start) whole) start

abbrev pub moment_text : Form Moment
moment_text d = do
  found ← as_str d
  moment_of found

-- `_type` is the kind's, `spec_version` is of the standard's first edition
abbrev pub header : List ℕ → Form Header
header kind d = do
  kind_fits ← guard (has_text (codes "_type") (bytes_eq kind) d)
  version_fits ← guard (has_text (codes "spec_version") (begins_with (codes "1.")) d)
  version ← needed (codes "version") (whole 1 greatest) d
  expires ← needed (codes "expires") moment_text d
  Some (record { version = version; expires = expires })

-- every value is a text, and those of the known algorithms are digests
abbrev pub hashes : Form Hashes
hashes d = do
  found ← as_object d
  texts ← guard (all_members (λ value. is_some (as_str value)) found)
  sha256 ← optional (codes "sha256") (hex_bytes 32) d
  sha512 ← optional (codes "sha512") (hex_bytes 64) d
  Some (record { sha256 = sha256; sha512 = sha512 })

abbrev pub listing : Form Listing
listing d = do
  version ← needed (codes "version") (whole 1 greatest) d
  length ← optional (codes "length") (whole 0 greatest) d
  found ← optional (codes "hashes") hashes d
  Some (record { version = version; length = length; hashes = found })

-- true or false, and false if it is absent
abbrev pub flag : List ℕ → Form Bool
flag name d = do
  found ← optional name as_bool d
  Some (unwrap_or found false)

abbrev pub role_of : List ℕ → Form RoleKeys
role_of name d = needed (codes "roles") (needed name role_keys) d

abbrev pub root : Form Root
root d = do
  header ← header (codes "root") d
  ring ← needed (codes "keys") ring d
  root ← role_of (codes "root") d
  timestamp ← role_of (codes "timestamp") d
  snapshot ← role_of (codes "snapshot") d
  targets ← role_of (codes "targets") d
  consistent ← flag (codes "consistent_snapshot") d
  Some (record {
    header = header;
    ring = ring;
    root = root;
    timestamp = timestamp;
    snapshot = snapshot;
    targets = targets;
    consistent = consistent;
  })

abbrev pub timestamp : Form Timestamp
timestamp d = do
  header ← header (codes "timestamp") d
  snapshot ← needed (codes "meta") (needed (codes "snapshot.json") listing) d
  Some (record { header = header; snapshot = snapshot })

abbrev pub named : List ℕ → Form Named
named name d = do
  found ← listing d
  Some (record { name = name; listing = found })

abbrev pub snapshot : Form Snapshot
snapshot d = do
  header ← header (codes "snapshot") d
  files ← needed (codes "meta") (members named) d
  Some (record { header = header; files = files })

abbrev pub target : List ℕ → Form Target
target path d = do
  length ← needed (codes "length") (whole 0 greatest) d
  hashes ← needed (codes "hashes") hashes d
  Some (record { path = path; length = length; hashes = hashes })

-- the value of the one of two members that is there, if the other isn't
abbrev pub one_of : {A B C : Type 0} → (A → C) → (B → C) → Option A → Option B → Option C
one_of first second (Some found) None = Some (first found)
one_of first second None (Some found) = Some (second found)
one_of first second None None = None
one_of first second (Some found) (Some other) = None

-- exactly one of `paths` and `path_hash_prefixes`
abbrev pub paths : Form Paths
paths d = do
  patterns ← optional (codes "paths") (list (text_that is_pattern)) d
  prefixes ← optional (codes "path_hash_prefixes") (list (text_that is_prefix)) d
  one_of Patterns Prefixes patterns prefixes

abbrev pub delegation : Form Delegation
delegation d = do
  name ← needed (codes "name") text d
  keys ← role_keys d
  terminating ← flag (codes "terminating") d
  paths ← paths d
  Some (record { name = name; keys = keys; terminating = terminating; paths = paths })

-- succinct roles: `2 ^ bits` bins, each a role with these keys, whose name begins with the prefix
-- (this project's profile)
abbrev pub bins : Form Bins
bins d = do
  keys ← role_keys d
  bits ← needed (codes "bit_length") (whole 1 32) d
  prefix ← needed (codes "name_prefix") text d
  Some (record { keys = keys; bits = bits; prefix = prefix })

-- exactly one of `roles` and `succinct_roles`
abbrev pub roles : Form Roles
roles d = do
  found ← optional (codes "roles") (list delegation) d
  succinct ← optional (codes "succinct_roles") bins d
  one_of Listed Binned found succinct

abbrev pub delegations : Form Delegations
delegations d = do
  ring ← needed (codes "keys") ring d
  roles ← roles d
  Some (record { ring = ring; roles = roles })

abbrev pub targets : Form Targets
targets d = do
  header ← header (codes "targets") d
  targets ← needed (codes "targets") (members target) d
  delegations ← optional (codes "delegations") delegations d
  Some (record { header = header; targets = targets; delegations = delegations })
