-- A signed metadata file (TUF 1.0 section 4.2).
use Rattle.std.specs.Prelude.{◌≡◌, ℕ, ◌+◌, ◌^◌, ◌<◌, List, [], ◌∷◌, codes, fold, length, map, take, Some, string_bytes, IsTrue, slice_get, slice_index, slice_set}
use Rattle.std.specs.List.{AllZip}
use Rattle.serde_json.specs.Data.{Data, string, array, object, Items, no_items, item, no_members, member}
use Rattle.hex.specs.Hex.{encode_lower}
use Rattle.cjson.specs.Canon.{canon}
use Rattle.cjson.specs.declared.doc.Entry.{Entry}
use Rattle.lms.specs.Signer.{public_of}
use Rattle.lms.specs.Lms.{is_valid, levels}
use Rattle.seals.specs.declared.signer.Signer.{Signer}

-- ---- the file

-- an entry of `signatures`
abbrev pub entry_object : Entry → Data
entry_object e =
    object (member (codes "keyid") (string e.keyid)
    (member (codes "sig") (string e.sig) no_members))

abbrev pub entry_objects : List Entry → Items
entry_objects [] = no_items
entry_objects (e ∷ es) = item (entry_object e) (entry_objects es)

-- the file of a value and its entries
abbrev pub sealed : Data → List Entry → Data
sealed value es =
    object (member (codes "signatures") (array (entry_objects es))
    (member (codes "signed") value no_members))

-- ---- who signed it

-- what others see of a signer: its id, its public key, and how many leaves that has
pub record Holder : Type 0 where
  pub id : List ℕ
  pub public : List ℕ
  pub leaves : ℕ

abbrev pub holder : Signer → Holder
holder s = record {
  id = string_bytes s.id;
  public = public_of s.secret;
  leaves = 2 ^ levels s.secret.kind.height;
}

-- the signer with all leaves unused: its id, and the kind, the identifier I and the SEED of its key
abbrev pub unused : Signer → Signer
unused s = record s { secret = record s.secret { used = 0 } }

-- the number of used leaves of the signer
abbrev pub used_of : Signer → ℕ
used_of s = s.secret.used

-- of these counts, after one more signature at place p
abbrev pub spend : List ℕ → ℕ → List ℕ
spend counts p = slice_set counts p (slice_index counts p + 1)

-- the first places have taken a leaf each, up to some place
abbrev pub HasSpent : List ℕ → List ℕ → List ℕ → Type 0
HasSpent by old new = (n : ℕ) × (new ≡ fold spend old (take n by))

-- the signer at place i of `by` has no leaf left when it is its turn
pub record IsUsedUpAt (signers : List Signer) (by : List ℕ) (i : ℕ) : Type 0 where
  pub within : i < length by
  pub h : Holder
  pub at : slice_get (map holder signers) (slice_index by i) ≡ Some h
  pub used : slice_index (fold spend (map used_of signers) (take i by)) (slice_index by i)
      ≡ h.leaves

-- some signer has no leaf left when it is its turn
abbrev pub IsUsedUp : List Signer → List ℕ → Type 0
IsUsedUp signers by = (i : ℕ) × IsUsedUpAt signers by i

-- the entry has the holder's id, and a signature of the text that is valid for the holder's public
-- key, in lower-case hexadecimal
pub record IsSignedBy (h : Holder) (text : List ℕ) (e : Entry) : Type 0 where
  pub keyid : e.keyid ≡ h.id
  pub signature : List ℕ
  pub sig : e.sig ≡ encode_lower signature
  pub valid : IsTrue (is_valid h.public text signature)

-- the same of the holder at that place
abbrev pub IsSignedAt : List Holder → List ℕ → ℕ → Entry → Type 0
IsSignedAt hs text p e = (h : Holder) × (slice_get hs p ≡ Some h) × IsSignedBy h text e

-- The file is the canonical text of the value with an entry for each place, in order, and each
-- signature covers the canonical text of the value.
pub record IsSealed (value : Data) (hs : List Holder) (by file : List ℕ) : Type 0 where
  pub signed : List ℕ
  pub signed_text : canon value ≡ Some signed
  pub entries : List Entry
  pub signatures : AllZip (IsSignedAt hs signed) by entries
  pub file_text : canon (sealed value entries) ≡ Some file
