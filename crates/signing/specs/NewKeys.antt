-- Public keys that another program made, as key objects (TUF 1.0 section 4.2).
use Rattle.std.specs.Prelude.{◌≡◌, ℕ, ◌==◌, List, length, drop, codes, Option, Result, Ok, Err, if◌then◌else◌}
use Rattle.serde_json.specs.Data.{Data, string, object, no_members, member}
use Rattle.hex.specs.Hex.{encode_lower}
use Rattle.cjson.specs.Document.{or_refuse, tree_of}
use Rattle.cjson.specs.Form.{◌>>=◌}
use Rattle.keys.specs.Keys.{key_id, usable}
use Rattle.keys.specs.declared.key.Key.{Key}
use Rattle.lms.specs.Lms.{public_of}
use Rattle.signing.specs.Octets.{first_number}
use Rattle.signing.specs.declared.fault.KeyFault.{KeyFault}
use Rattle.signing.specs.declared.fault.KeyFault.TheVariants.{Length, Levels, Kind}

-- a public key of a supported kind (RFC 8554 section 5.3)
abbrev pub supported : List ℕ → Result (List ℕ) KeyFault
supported bytes = or_refuse (public_of bytes) Kind

-- a public key of HSS with one level: the number of levels, and the key (RFC 8554 section 6.1)
abbrev pub one_level : List ℕ → Result (List ℕ) KeyFault
one_level bytes =
    if first_number bytes == 1 then supported (drop 4 bytes)
    else Err (Levels (first_number bytes))

-- the public key that the bytes are, or the first fault
abbrev pub public_in : List ℕ → Result (List ℕ) KeyFault
public_in bytes =
    if length bytes == 60 then one_level bytes
    else if length bytes == 56 then supported bytes
    else Err (Length (length bytes))

-- the key object with these digits
abbrev pub object_of : List ℕ → Data
object_of digits =
    object (member (codes "keytype") (string (codes "lms"))
    (member (codes "keyval") (object (member (codes "public") (string digits) no_members))
    (member (codes "scheme") (string (codes "lms-sha256")) no_members)))

-- the key object of a public key
abbrev pub key_object : List ℕ → Data
key_object public = object_of (encode_lower public)

abbrev pub IsKeyObject : Data → Type 0
IsKeyObject d = (public : List ℕ) × (d ≡ key_object public)

-- an object of keys that has this one alone
abbrev pub alone : List ℕ → Data → Data
alone id key = object (member id key no_members)

-- the key of a key object's file, under the object's own id
abbrev pub key_in : List ℕ → Option Key
key_in file = do
  key ← tree_of file
  id ← key_id key
  usable id key
