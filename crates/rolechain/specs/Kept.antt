-- The trusted files, and what a state file keeps of them.
use Rattle.std.specs.Prelude.{◌≡◌, ℕ, IfSome, Ok, ◌||◌, nat_lt, List, [], ◌∷◌, ◌++◌, length, Bool, false, Option, Some, None, codes, option_map}
use Rattle.std.specs.Option.{option_map_or}
use Rattle.serde_json.specs.Data.{Data, string, object, Members, no_members, member}
use Rattle.serde_json.specs.Find.{as_str}
use Rattle.hex.specs.Hex.{encode_lower, decode_of}
use Rattle.cjson.specs.Form.{needed, optional, ok, ◌>>=◌}
use Rattle.meta.specs.Metadata as form
use Rattle.meta.specs.Content.{Form, Part, part_of, root_limit, timestamp_limit, snapshot_limit, targets_limit}
pub use Rattle.rolechain.specs.Advance.{State}
pub use Rattle.rolechain.specs.declared.text.Kept.{Kept}

-- # Every trusted file is the reading of its bytes (TUF 1.0 section 4).

-- the file is what its bytes are read as, and they are within the limit
abbrev pub IsRead : {A : Type 0} → Form A → ℕ → Part A → Type 0
IsRead form limit p = part_of form limit p.bytes ≡ Ok p

-- so is each file of the state, by the form and the limit of its kind
pub record AreRead (s : State) : Type 0 where
  pub root : IsRead form.root root_limit s.root
  pub timestamp : IfSome s.timestamp (IsRead form.timestamp timestamp_limit)
  pub snapshot : IfSome s.snapshot (IsRead form.snapshot snapshot_limit)
  pub targets : IfSome s.targets (IsRead form.targets targets_limit)

-- # What a state file keeps.

abbrev pub bytes_in : {A : Type 0} → Option (Part A) → Option (List ℕ)
bytes_in p = option_map (λ p. p.bytes) p

abbrev pub kept_of : State → Kept
kept_of s = record {
  root = s.root.bytes;
  snapshot = bytes_in s.snapshot;
  targets = bytes_in s.targets;
  timestamp = bytes_in s.timestamp;
}

-- the hexadecimal text of some bytes
abbrev pub hex_text : Form (List ℕ)
hex_text d = do
  text ← as_str d
  ok (decode_of text)

abbrev pub kept : Form Kept
kept d = do
  root ← needed (codes "root") hex_text d
  snapshot ← optional (codes "snapshot") hex_text d
  targets ← optional (codes "targets") hex_text d
  timestamp ← optional (codes "timestamp") hex_text d
  Some (record { root = root; snapshot = snapshot; targets = targets; timestamp = timestamp })

-- a member that is a text in lower-case hexadecimal
abbrev pub member_text : List ℕ → List ℕ → List ℕ
member_text name bytes = 34 ∷ name ++ codes "\":\"" ++ encode_lower bytes ++ codes "\""

-- the same after a comma, if the file is trusted
abbrev pub later_text : List ℕ → Option (List ℕ) → List ℕ
later_text name None = []
later_text name (Some bytes) = 44 ∷ member_text name bytes

-- the members in the order of their names, without white space
abbrev pub kept_text : Kept → List ℕ
kept_text k =
    codes "{" ++ member_text (codes "root") k.root ++ later_text (codes "snapshot") k.snapshot
    ++ later_text (codes "targets") k.targets
    ++ later_text (codes "timestamp") k.timestamp ++ codes "}"

-- the member of a file that is trusted, before the others
abbrev pub later_member : List ℕ → Option (List ℕ) → Members → Members
later_member name None ms = ms
later_member name (Some bytes) ms = member name (string (encode_lower bytes)) ms

-- the tree of a state file
abbrev pub kept_tree : Kept → Data
kept_tree k =
    object (member (codes "root") (string (encode_lower k.root))
    (later_member (codes "snapshot") k.snapshot (later_member (codes "targets") k.targets
    (later_member (codes "timestamp") k.timestamp no_members))))

abbrev pub is_over : ℕ → Option (List ℕ) → Bool
is_over limit bytes = option_map_or (λ b. nat_lt limit (length b)) bytes false

-- a file over the limit of its kind
abbrev pub has_long : Kept → Bool
has_long k =
    nat_lt root_limit (length k.root) || is_over snapshot_limit k.snapshot
    || is_over targets_limit k.targets || is_over timestamp_limit k.timestamp
