-- The keys that must sign a file, from the file that lists them, and who of them signed.
use Rattle.std.specs.Prelude.{◌≡◌, ℕ, List, Option, Some, None, if◌then◌else◌, bytes_eq, codes, find, option_map}
use Rattle.std.specs.FinSet as set
use Rattle.serde_json.specs.Find.{get}
use Rattle.cjson.specs.Document.{Document}
use Rattle.cjson.specs.Tree.{view}
use Rattle.cjson.specs.Form.{◌>>=◌, Data, needed}
use Rattle.keys.specs.Keys.{is_met, signers}
use Rattle.keys.specs.declared.key.Key.{Key}
use Rattle.keys.specs.declared.role_keys.RoleKeys.{RoleKeys}
use Rattle.meta.specs.Metadata as form
pub use Rattle.meta.specs.Metadata.{begins_with}
use Rattle.meta.specs.declared.delegation.Delegation.{Delegation}
use Rattle.meta.specs.declared.delegations.Roles.{Roles}
use Rattle.meta.specs.declared.delegations.Roles.TheVariants.{Listed, Binned}
use Rattle.rolechain.specs.declared.end.Step.{Step}
use Rattle.rolechain.specs.declared.end.Step.TheVariants as step
use Rattle.signing.specs.Signers.{findings, id_count}
use Rattle.signing.specs.declared.signing.Required as keys
use Rattle.signing.specs.declared.signing.Signing.{Signing}
use Rattle.ceremony.specs.declared.required.Role.{Role}
use Rattle.ceremony.specs.declared.required.Role.TheVariants.{Top, Delegated}

-- the object of keys, its usable keys, and the ids of those that may sign with their threshold
pub record Required : Type 0 where
  pub keys : Data
  pub ring : List Key
  pub role : RoleKeys

-- ---- a root file

abbrev pub top_keys : Step → form.Root → RoleKeys
top_keys step.Root r = r.root
top_keys step.Timestamp r = r.timestamp
top_keys step.Snapshot r = r.snapshot
top_keys step.Targets r = r.targets

-- of a root file that was read
abbrev pub root_required : Step → Data → form.Root → Option Required
root_required step signed found = do
  keys ← get (codes "keys") signed
  Some (record { keys = keys; ring = found.ring; role = top_keys step found })

abbrev pub by_root : Step → Data → Option Required
by_root step signed = do
  found ← form.root signed
  root_required step signed found

-- ---- a targets file

abbrev pub delegation_keys : Data → Option Data
delegation_keys signed = do
  found ← get (codes "delegations") signed
  get (codes "keys") found

abbrev pub listed_keys : List ℕ → List Delegation → Option RoleKeys
listed_keys name ds = option_map (λ d. d.keys) (find (λ d. bytes_eq d.name name) ds)

-- of the first delegation to the role, or of the hash bins, whose names begin with the prefix
abbrev pub delegated_keys : List ℕ → Roles → Option RoleKeys
delegated_keys name (Listed ds) = listed_keys name ds
delegated_keys name (Binned bins) = if begins_with bins.prefix name then Some bins.keys else None

-- of a targets file that was read
abbrev pub targets_required : List ℕ → Data → form.Targets → Option Required
targets_required name signed found = do
  delegations ← found.delegations
  role ← delegated_keys name delegations.roles
  keys ← delegation_keys signed
  Some (record { keys = keys; ring = delegations.ring; role = role })

abbrev pub by_targets : List ℕ → Data → Option Required
by_targets name signed = do
  found ← form.targets signed
  targets_required name signed found

-- ---- either

abbrev pub required : Role → Data → Option Required
required (Top step) signed = by_root step signed
required (Delegated name) signed = by_targets name.now signed

-- ---- who signed

pub record IsSigning (d : Document) (r : Required) (s : Signing) : Type 0 where
  pub met : s.is_met ≡ is_met d.text d.entries r.ring r.role
  pub threshold : s.threshold ≡ r.role.threshold
  pub signed : s.signed ≡ set.len (signers d.text d.entries r.ring r.role)
  pub listed : s.listed ≡ id_count r.role
  pub keys : s.keys ≡ findings d.text d.entries r.keys r.ring r.role

-- these are the keys, and it is said who of them signed
pub record IsSigningOf (d : Document) (o : Option Required) (s : Signing) : Type 0 where
  pub required : Required
  pub found : o ≡ Some required
  pub signing : IsSigning d required s

-- what contracts see of the keys
abbrev pub seen : keys.Required → Required
seen r = record { keys = view r.keys.now; ring = r.ring.now; role = r.role.now }
