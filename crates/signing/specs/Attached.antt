-- The file to which a signature is attached.
use Rattle.std.specs.Prelude.{◌≡◌, ℕ, ◌==◌, ◌&&◌, List, [], ◌∷◌, ◌++◌, Bool, true, false, Option, Some, None, if◌then◌else◌, nat_le, not, filter, length, take, drop, bytes_eq, Ok, Err, ⊤}
use Rattle.std.specs.List.{list_any}
use Rattle.serde_json.specs.Data.{Data}
use Rattle.hex.specs.Hex.{encode_lower}
use Rattle.cjson.specs.Document.{Document, document as document_of_file}
use Rattle.cjson.specs.declared.doc.Entry.{Entry}
use Rattle.keys.specs.Keys.{has_entry, is_signed_by}
use Rattle.keys.specs.declared.key.Key.{Key}
use Rattle.lms.specs.Lms.{length_for, public_kind}
use Rattle.signing.specs.Drafts.{draft}
use Rattle.signing.specs.Invalids.{leaf_in, reason}
use Rattle.signing.specs.Octets.{octets}
use Rattle.signing.specs.declared.attaching.Attached.{Attached}
use Rattle.signing.specs.declared.fault.AttachFault.{AttachFault}
use Rattle.signing.specs.declared.fault.AttachFault.TheVariants.{File, Signature, NoMemory}

-- # The signature of a file.

-- a signature of HSS with one level has four zero bytes in front (RFC 8554 section 6.2)
abbrev pub is_one_level : ℕ → List ℕ → Bool
is_one_level due bytes =
    nat_le 4 (length bytes) && bytes_eq (take 4 bytes) (0 ∷ 0 ∷ 0 ∷ 0 ∷ [])
    && (length (drop 4 bytes) == due)

-- the signature, if one of LMS has that number of bytes
abbrev pub without_level : ℕ → List ℕ → List ℕ
without_level due bytes = if is_one_level due bytes then drop 4 bytes else bytes

-- the signature in a file, for a public value
abbrev pub signature_in : List ℕ → List ℕ → List ℕ
signature_in public file = without_level (length_for (public_kind public)) (octets file)

-- # The entries.

-- the entry is under the key's id and valid
abbrev pub is_good : Key → List ℕ → Entry → Bool
is_good key message e = bytes_eq e.keyid key.id && is_signed_by key.public message e.sig

-- the entry is under the key's id and isn't valid
abbrev pub is_stale : Key → List ℕ → Entry → Bool
is_stale key message e = bytes_eq e.keyid key.id && not (is_signed_by key.public message e.sig)

-- all entries but those
abbrev pub staying : Key → List ℕ → List Entry → List Entry
staying key message entries = filter (λ e. not (is_stale key message e)) entries

-- the new entry, if it has a text
abbrev pub new_entry : Key → Option (List ℕ) → List Entry
new_entry key None = []
new_entry key (Some sig) = record { keyid = key.id; sig = sig } ∷ []

-- the entries that stay, and behind them the new one, unless a valid one was there
abbrev pub entries_after : Key → List ℕ → List ℕ → List Entry → List Entry
entries_after key sig message entries = staying key message entries
    ++ new_entry key (if has_entry message entries key then None else Some (encode_lower sig))

-- the document with these entries
abbrev pub after : Key → List ℕ → Document → Document
after key sig d = record d { entries = entries_after key sig d.text d.entries }

-- the document of these parts
abbrev pub drafted : Data → List ℕ → List Entry → Document
drafted signed text es = record { signed = signed; text = text; entries = es }

-- # What a call returns that attaches the signature of a file.

-- The new file has the same `signed`, so the same text, and these entries. The signature is valid,
-- and so is each entry under the key's id that the new file has, of which there is one at least.
pub record IsAttached (file : List ℕ) (key : Key) (sig : List ℕ) (a : Attached) : Type 0 where
  pub document : Document
  pub read : draft file ≡ Ok document
  pub written : document_of_file a.file.items ≡ Ok (after key sig document)
  pub new : a.is_new ≡ not (has_entry document.text document.entries key)
  pub leaf : a.leaf ≡ leaf_in sig
  pub valid : is_signed_by key.public document.text (encode_lower sig) ≡ true
  pub signed : has_entry document.text (after key sig document).entries key ≡ true
  pub none_stale :
      list_any (is_stale key document.text) (after key sig document).entries ≡ false

-- the signature isn't valid for this reason
pub record IsInvalid (file : List ℕ) (key : Key) (sig : List ℕ) (f : AttachFault) : Type 0 where
  pub document : Document
  pub read : draft file ≡ Ok document
  pub invalid : is_signed_by key.public document.text (encode_lower sig) ≡ false
  pub reason : f ≡ Signature (reason key.public sig)

-- why nothing is attached
abbrev pub IsRefused : List ℕ → Key → List ℕ → AttachFault → Type 0
IsRefused file key sig (File f) = draft file ≡ Err f
IsRefused file key sig (Signature why) = IsInvalid file key sig (Signature why)
IsRefused file key sig NoMemory = ⊤
