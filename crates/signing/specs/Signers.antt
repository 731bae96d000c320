-- Who signed a document, and what each listed id came to.
use Rattle.std.specs.Prelude.{◌≡◌, ℕ, ◌&&◌, List, [], ◌∷◌, ◌++◌, Bool, true, false, Option, Some, None, if◌then◌else◌, not, is_some, unwrap_or, option_and_then, bytes_eq, codes, filter, find, fold, length, nat_le, ◌||◌}
use Rattle.std.specs.Cmp.Lexicographic.{slice_cmp}
use Rattle.std.specs.FinSet as set
use Rattle.std.specs.List.{list_any}
use Rattle.std.specs.Option.{option_map_or}
use Rattle.std.specs.Ordering.{nat_cmp}
use Rattle.serde_json.specs.Find.{as_str, get}
use Rattle.cjson.specs.Form.{Data}
use Rattle.cjson.specs.declared.doc.Entry.{Entry}
use Rattle.keys.specs.Keys.{is_lms, is_own_id, public_value}
use Rattle.keys.specs.declared.key.Key.{Key}
use Rattle.keys.specs.declared.role_keys.RoleKeys.{RoleKeys}
use Rattle.signing.specs.Attached.{is_good}
use Rattle.signing.specs.Invalids.{text_leaf, text_reason}
use Rattle.signing.specs.declared.signing.KeyFinding.{KeyFinding}
use Rattle.signing.specs.declared.signing.KeyFinding.TheVariants.{Signed, Again, Unsigned, Invalid}
use Rattle.signing.specs.declared.signing.KeyFinding.TheVariants as found
use Rattle.signing.specs.declared.signing.ListedKey.{ListedKey}
use Rattle.signing.specs.declared.unusable.Unusable.{Unusable}
use Rattle.signing.specs.declared.unusable.Unusable.TheVariants as why

-- # Why an id has no usable key, if it has none.

-- the key's type, and no text if it has none
abbrev pub key_type : Data → List ℕ
key_type key = unwrap_or (option_and_then as_str (get (codes "keytype") key)) []

abbrev pub unusable_key : Data → Unusable
unusable_key key =
    if not (is_lms key) then why.Type (key_type key)
    else if not (is_some (public_value key)) then why.Kind
    else why.Id

-- of an object of keys
abbrev pub unusable : Data → List ℕ → Unusable
unusable keys id = option_map_or unusable_key (get id keys) why.Absent

-- ---- the law of the reason

-- whether an id has none, by all checks of a usable key
abbrev pub why_not_key : List ℕ → Data → Option Unusable
why_not_key id key =
    if not (is_lms key) then Some (why.Type (key_type key))
    else if not (is_some (public_value key)) then Some why.Kind
    else if not (is_own_id id key) then Some why.Id
    else None

-- of an object of keys
abbrev pub why_not : Data → List ℕ → Option Unusable
why_not keys id = option_map_or (why_not_key id) (get id keys) (Some why.Absent)

abbrev pub key_of : List Key → List ℕ → Option Key
key_of ring id = find (λ key. bytes_eq key.id id) ring

-- There is a reason exactly if the ring has no key of the id, and it is the one that is told.
abbrev pub IsReasoned : Data → List Key → List ℕ → Type 0
IsReasoned keys ring id =
    why_not keys id ≡ option_map_or (λ _. None) (key_of ring id) (Some (unusable keys id))

-- # What an id came to.

abbrev pub is_signed : ListedKey → Bool
is_signed k = is_signed_finding k.finding
  where
    is_signed_finding : KeyFinding → Bool
    is_signed_finding (Signed leaf) = true
    is_signed_finding _ = false

-- the id has a usable key with the public value
abbrev pub has_public : List Key → List ℕ → List ℕ → Bool
has_public ring id public =
    option_map_or (λ key. bytes_eq key.public public) (key_of ring id) false

-- the id signed, with the public value
abbrev pub is_signed_as : List Key → List ℕ → ListedKey → Bool
is_signed_as ring public k = is_signed k && has_public ring k.id public

-- of a key that signed by the entry, after these
abbrev pub signed_finding : List Key → List ListedKey → Key → Entry → KeyFinding
signed_finding ring all key e =
    option_map_or (λ k. Again k.id) (find (is_signed_as ring key.public) all)
    (Signed (text_leaf e.sig))

-- the entry is under the key's id
abbrev pub is_under : Key → Entry → Bool
is_under key e = bytes_eq e.keyid key.id

-- of a key that didn't sign
abbrev pub unsigned_finding : List Entry → Key → KeyFinding
unsigned_finding entries key =
    option_map_or
    (λ e. Invalid (length (filter (is_under key) entries)) (text_reason key.public e.sig))
    (find (is_under key) entries) Unsigned

-- of a usable key, after these
abbrev pub key_finding : List ℕ → List Entry → List Key → List ListedKey → Key → KeyFinding
key_finding message entries ring all key =
    option_map_or (signed_finding ring all key) (find (is_good key message) entries)
    (unsigned_finding entries key)

-- of an id, after these
abbrev pub finding : List ℕ → List Entry → Data → List Key → List ListedKey → List ℕ → KeyFinding
finding message entries keys ring all id =
    option_map_or (key_finding message entries ring all) (key_of ring id)
    (found.Unusable (unusable keys id))

abbrev pub is_named : List ℕ → ListedKey → Bool
is_named id k = bytes_eq k.id id

-- the most ids of which it is said what they came to
abbrev pub most_keys : ℕ
most_keys = 64

-- these and the id, unless it is among them or they are the most
abbrev pub with_id : List ℕ → List Entry → Data → List Key → List ListedKey → List ℕ
    → List ListedKey
with_id message entries keys ring all id =
    if nat_le most_keys (length all) || list_any (is_named id) all then all
    else all ++ record { id = id; finding = finding message entries keys ring all id } ∷ []

-- each listed id once, up to the most
abbrev pub findings : List ℕ → List Entry → Data → List Key → RoleKeys → List ListedKey
findings message entries keys ring role = fold (with_id message entries keys ring) [] role.ids

-- the number of listed ids, each counted once
abbrev pub id_count : RoleKeys → ℕ
id_count role = set.len (set.from_list {R = slice_cmp nat_cmp} role.ids)
