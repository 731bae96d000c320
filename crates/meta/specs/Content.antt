-- What is required of each file, whatever its kind: its name, its reading, its limit, its length
-- and its digests (TUF 1.0 sections 4 and 5).
use Rattle.std.specs.Prelude.{ℕ, ◌==◌, if◌then◌else◌, List, [], ◌∷◌, ◌++◌, Bool, Option, option_map, option_to_list, decimal, codes, Result, Ok, Err, nat_lt, length, ◌&&◌, ◌||◌, not, false, Some, None, is_none, bytes_eq, ⊤, ◌≡◌}
use Rattle.std.specs.List.{list_any}
use Rattle.std.specs.Option.{option_map_or}
use Rattle.hex.specs.Hex.{encode_lower}
pub use Rattle.cjson.specs.Document.{Document, document, ◌>>=◌, or_refuse, refuse_if}
pub use Rattle.cjson.specs.Form.{Form}
use Rattle.cjson.specs.declared.fault.DocFault.{DocFault}
use Rattle.keys.specs.Keys.{digest_by}
use Rattle.keys.specs.declared.judge.Algorithm.TheVariants.{Sha256, Sha512}
use Rattle.meta.specs.declared.fault.Stop.{Stop}
pub use Rattle.meta.specs.declared.fault.Fault.{Fault}
use Rattle.meta.specs.declared.fault.Fault.TheVariants.{Malformed, TooLong, LengthWrong, HashWrong, NoKnownHash}
use Rattle.meta.specs.declared.fault.Stop.TheVariants.{Refused, NoMemory}
use Rattle.meta.specs.declared.hashes.Hashes.{Hashes}

-- # The names of the files of a repository (TUF 1.0, consistent snapshots).

-- `VERSION.root.json`
abbrev pub root_name : ℕ → List ℕ
root_name version = decimal version ++ codes ".root.json"

-- `ROLE.json`
abbrev pub role_name : List ℕ → List ℕ
role_name role = role ++ codes ".json"

-- `VERSION.` before the name, under consistent snapshots
abbrev pub versioned : Bool → ℕ → List ℕ → List ℕ
versioned consistent version name = if consistent then decimal version ++ 46 ∷ name else name

-- the path has a `/`
abbrev pub has_slash : List ℕ → Bool
has_slash path = list_any (λ c. c == 47) path

-- `HASH.` before what follows the last `/`
abbrev pub hashed : List ℕ → List ℕ → List ℕ
hashed hash [] = hash ++ 46 ∷ []
hashed hash (c ∷ path) =
    if has_slash (c ∷ path) then c ∷ hashed hash path else hash ++ 46 ∷ c ∷ path

-- the name under a digest, if it is listed
abbrev pub hashed_name : List ℕ → Option (List ℕ) → List (List ℕ)
hashed_name path digest = option_to_list (option_map (λ d. hashed (encode_lower d) path) digest)

-- The names of a target's file, the first one first: its path, or under consistent snapshots the
-- names under its sha256 and its sha512 digest, each if it is listed.
abbrev pub target_names : Bool → List ℕ → Option (List ℕ) → Option (List ℕ) → List (List ℕ)
target_names consistent path sha256 sha512 =
    if consistent then hashed_name path sha256 ++ hashed_name path sha512 else path ∷ []

-- # What the bytes of a file are read as (TUF 1.0 section 4).

abbrev pub or_malformed : {A : Type 0} → Result A DocFault → Result A Fault
or_malformed (Ok x) = Ok x
or_malformed (Err fault) = Err Malformed

-- the document of a file
abbrev pub document_of : List ℕ → Result Document Fault
document_of bytes = or_malformed (document bytes)

-- a document of the form
abbrev pub formed : {A : Type 0} → Form A → Document → Result A Fault
formed form doc = or_refuse (form doc.signed) Malformed

-- what the bytes are read as
abbrev pub reading_of : {A : Type 0} → Form A → List ℕ → Result A Fault
reading_of form bytes = do
  doc ← document_of bytes
  formed form doc

-- # A file with what is read from it, and the limits on files (TUF 1.0 section 5).

-- the maximum number of bytes of a file of each kind
abbrev pub root_limit : ℕ
root_limit = 512000

abbrev pub timestamp_limit : ℕ
timestamp_limit = 16384

abbrev pub snapshot_limit : ℕ
snapshot_limit = 2000000

abbrev pub targets_limit : ℕ
targets_limit = 5000000

-- a file's bytes, and what is read from them
pub record Part (A : Type 0) : Type 0 where
  pub bytes : List ℕ
  pub reading : A

-- the file of these bytes, or its first fault
abbrev pub part_of : {A : Type 0} → Form A → ℕ → List ℕ → Result (Part A) Fault
part_of form limit bytes = do
  short ← refuse_if (nat_lt limit (length bytes)) TooLong
  reading ← reading_of form bytes
  Ok (record { bytes = bytes; reading = reading })

-- # The length and the digests of a file (TUF 1.0 sections 5.3 to 5.7): the result is that of the
-- first check that fails.

-- a digest is listed that differs from that of the bytes
abbrev pub differs : Option (List ℕ) → List ℕ → Bool
differs None found = false
differs (Some given) found = not (bytes_eq given found)

abbrev pub is_hash_wrong : Hashes → List ℕ → Bool
is_hash_wrong h bytes =
    differs h.sha256 (digest_by Sha256 bytes) || differs h.sha512 (digest_by Sha512 bytes)

abbrev pub has_no_known_hash : Hashes → Bool
has_no_known_hash h = is_none h.sha256 && is_none h.sha512

abbrev pub is_length_wrong : Option ℕ → List ℕ → Bool
is_length_wrong None bytes = false
is_length_wrong (Some n) bytes = not (n == length bytes)

abbrev pub is_too_long : Option ℕ → List ℕ → Bool
is_too_long None bytes = false
is_too_long (Some limit) bytes = nat_lt limit (length bytes)

-- the limit, and the length and the digests if they are listed
abbrev pub content : Option ℕ → Option ℕ → Option Hashes → List ℕ → Result ⊤ Fault
content limit size hashes bytes = do
  short ← refuse_if (is_too_long limit bytes) TooLong
  sized ← refuse_if (is_length_wrong size bytes) LengthWrong
  hashed ← refuse_if (option_map_or (λ h. is_hash_wrong h bytes) hashes false) HashWrong
  refuse_if (option_map_or has_no_known_hash hashes false) NoKnownHash

-- the first of these checks that fails
abbrev pub fault_of : Result ⊤ Fault → Option Fault
fault_of (Ok fine) = None
fault_of (Err fault) = Some fault

-- # What a call returns that makes checks in order. If it is out of memory, nothing is known.

-- the same, as `seen` sees it
abbrev pub Answers : {A B : Type 0} → Result A Fault → Result B Stop → (B → A) → Type 0
Answers r (Ok x) seen = r ≡ Ok (seen x)
Answers r (Err (Refused fault)) seen = r ≡ Err fault
Answers r (Err NoMemory) seen = Unit {0}
