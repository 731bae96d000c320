-- Keys, the roles that list them, and who signed (TUF 1.0 sections 4.2 to 4.4).
use denote.Ref.{Bor}
use Rattle.std.specs.Prelude.{ℕ, ◌&&◌, List, filter_map, Bool, Option, Some, option_map, is_some, bytes_eq, codes, nat_le, map, filter, false, Result, Ok, Err, ◌≡◌, [], Vec, None}
use Rattle.std.specs.BTreeMap.{BTreeMap, get_by}
use Rattle.std.specs.BTreeSet.{BTreeSet, contains_by}
use Rattle.std.specs.Cmp.Lexicographic.{slice_cmp}
use Rattle.std.specs.List.{list_any}
use Rattle.std.specs.Option.{option_map_or}
use Rattle.std.specs.Ordering.{nat_cmp}
use Rattle.std.specs.declared.alloc.Global.{Global}
use Rattle.std.specs.FinSet as set
use Rattle.serde_json.specs.Find.{as_object}
use Rattle.sha2.specs.Sha256.{sha256}
use Rattle.sha2.specs.Sha512.{sha512}
use Rattle.hex.specs.Hex.{encode_lower, decode_of}
use Rattle.cjson.specs.Form.{◌>>=◌, Data, Form, guard, has_text, needed, list, members, text, greatest, whole, hex_bytes, ok}
use Rattle.cjson.specs.Canon.{canon}
use Rattle.cjson.specs.declared.fault.Canon.TheVariants.{Float, NoMemory}
use Rattle.cjson.specs.declared.doc.Entry.{Entry}
use Rattle.cjson.specs.declared.fault.Canon.{Canon}
use Rattle.lms.specs.Lms.{public_of, is_valid}
use Rattle.keys.specs.declared.judge.Algorithm.TheVariants.{Sha256, Sha512}
use Rattle.keys.specs.declared.key.Key.{Key}
use Rattle.keys.specs.declared.judge.Ask.{Ask}
use Rattle.keys.specs.declared.judge.SignatureAsk.{SignatureAsk}
use Rattle.keys.specs.declared.role_keys.RoleKeys.{RoleKeys}
use Rattle.keys.specs.declared.judge.Algorithm.{Algorithm}
use Rattle.keys.specs.declared.entries.Placed.{Placed}
use Rattle.keys.specs.declared.judge.Ask.TheVariants.{Signature, Digest}

-- the id of a key: the SHA-256 of its canonical text, in lower-case hexadecimal (section 4.2)
abbrev pub key_id : Data → Option (List ℕ)
key_id key = option_map (λ text. encode_lower (sha256 text)) (canon key)

abbrev pub is_own_id : List ℕ → Data → Bool
is_own_id id key = is_some (do
  found ← key_id key
  guard (bytes_eq found id))

-- the public value, if it is one of a supported kind
abbrev pub public_value : Data → Option (List ℕ)
public_value key = do
  bytes ← needed (codes "keyval") (needed (codes "public") (hex_bytes 56)) key
  public_of bytes

-- the key's type and scheme are those of LMS with SHA-256
abbrev pub is_lms : Data → Bool
is_lms key =
    has_text (codes "keytype") (bytes_eq (codes "lms")) key
    && has_text (codes "scheme") (bytes_eq (codes "lms-sha256")) key

-- the key, if it counts under the id
abbrev pub usable : List ℕ → Data → Option Key
usable id key = do
  public ← public_value key
  lms ← guard (is_lms key)
  own ← guard (is_own_id id key)
  Some (record { id = id; public = public })

-- a member of an object of keys has to be an object; it may be a key that isn't usable
abbrev pub listed_key : List ℕ → Data → Option (Option Key)
listed_key id key = do
  found ← as_object key
  Some (usable id key)

-- the usable keys of an object of keys, in the order of their ids
abbrev pub ring : Form (List Key)
ring d = do
  keys ← members listed_key d
  Some (filter_map (λ key. key) keys)

abbrev pub role_keys : Form RoleKeys
role_keys d = do
  ids ← needed (codes "keyids") (list text) d
  threshold ← needed (codes "threshold") (whole 1 greatest) d
  Some (record { ids = ids; threshold = threshold })

-- # Who signed a document, and whether they are enough (TUF 1.0 sections 4.2 and 4.3).

-- the text is the hexadecimal of a valid signature of the message
abbrev pub is_signed_by : List ℕ → List ℕ → List ℕ → Bool
is_signed_by public message sig =
    option_map_or (is_valid public message) (ok (decode_of sig)) false

-- an entry under the key's id has a valid signature
abbrev pub has_entry : List ℕ → List Entry → Key → Bool
has_entry message entries key =
    list_any (λ e. bytes_eq e.keyid key.id && is_signed_by key.public message e.sig) entries

-- the role lists the key, and an entry under its id has a valid signature
abbrev pub has_signed : List ℕ → List Entry → RoleKeys → Key → Bool
has_signed message entries role key =
    list_any (bytes_eq key.id) role.ids && has_entry message entries key

-- the set of the public values that signed
abbrev pub signers : List ℕ → List Entry → List Key → RoleKeys → set.FinSet (slice_cmp nat_cmp)
signers message entries keys role =
    set.from_list (map (λ key. key.public) (filter (has_signed message entries role) keys))

-- they are at least as many as the role's threshold
abbrev pub is_met : List ℕ → List Entry → List Key → RoleKeys → Bool
is_met message entries keys role =
    nat_le role.threshold (set.len (signers message entries keys role))

-- # Checks of signatures (TUF 1.0 section 4.2) and digests (section 4.4), and their truth.

abbrev pub digest_by : Algorithm → List ℕ → List ℕ
digest_by Sha256 bytes = sha256 bytes
digest_by Sha512 bytes = sha512 bytes

-- all parts of a check: file, place, public value, message and signature's text; or file,
-- algorithm, bytes and digest
pub data Question : Type 0 where
  signature_of : List ℕ → ℕ → List ℕ → List ℕ → List ℕ → Question
  digest_of : List ℕ → Algorithm → List ℕ → List ℕ → Question

-- the parts of an `Ask`
abbrev pub question_of : Ask → Question
question_of (Signature a) = signature_of a.file.now a.place a.public.now a.message.now a.sig.now
question_of (Digest a) = digest_of a.file.now a.algorithm a.bytes.now a.digest.now

-- the signature is valid, or the digest is that of the bytes
abbrev pub truth_of : Question → Bool
truth_of (signature_of file place public message sig) = is_signed_by public message sig
truth_of (digest_of file algorithm bytes digest) = bytes_eq digest (digest_by algorithm bytes)

abbrev pub truth : Ask → Bool
truth ask = truth_of (question_of ask)

-- the signature is valid
abbrev pub is_valid_in : SignatureAsk → Bool
is_valid_in ask = is_signed_by ask.public.now ask.message.now ask.sig.now

-- # Ids and entries that are looked up by a key's id.

-- the set has the id
abbrev pub has_id : BTreeSet (Bor (List ℕ)) → List ℕ → Bool
has_id ids id = contains_by (λ k. slice_cmp nat_cmp id k.now) ids

-- what was found, or nothing
abbrev pub placed_of : Option (Bor (List Placed)) → List Placed
placed_of found = option_map_or (λ ps. ps.now) found []

-- the texts that the map has at the id
abbrev pub sigs_under : BTreeMap (Bor (List ℕ)) (Vec Placed Global) → List ℕ → List (List ℕ)
sigs_under m id =
    map (λ p. p.sig.now)
    (option_map_or (λ ps. ps.items) (get_by (λ k. slice_cmp nat_cmp id k.now) m) [])

-- the map has at each id the texts of the entries under it, in their order
abbrev pub IsById : BTreeMap (Bor (List ℕ)) (Vec Placed Global) → List Entry → Type 0
IsById m entries = (id : List ℕ)
    → sigs_under m id ≡ map (λ e. e.sig) (filter (λ e. bytes_eq id e.keyid) entries)

-- # What a call returns that makes a text of a tree. If it is out of memory, nothing is known.

-- the text, or `Float` if there is none
abbrev pub GivesText : {A : Type 0} → Option (List ℕ) → Result A Canon → (A → List ℕ)
    → Type 0
GivesText o (Ok x) bytes = o ≡ Some (bytes x)
GivesText o (Err Float) bytes = o ≡ None
GivesText o (Err NoMemory) bytes = Unit {0}
