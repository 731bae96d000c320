-- A metadata file as a document: what is signed, its canonical text, and who signed (TUF 1.0
-- section 4.2).
use Rattle.std.specs.Prelude.{Bool, if◌then◌else◌, Option, Some, None, Result, Ok, Err, ⊤, ℕ, List, codes, option_map, option_and_then}
use Rattle.std.specs.Str.{is_utf8}
use Rattle.serde_json.specs.Data.{object}
use Rattle.cjson.specs.Tree.{view}
use Rattle.serde_json.specs.Find.{get, as_object}
use Rattle.serde_json.specs.Read.{read}
use Rattle.cjson.specs.Canon.{canon}
use Rattle.cjson.specs.Form.{Data, needed, list, entry, Entry}
use Rattle.cjson.specs.declared.doc.Doc.{Doc}
use Rattle.cjson.specs.declared.fault.DocFault.{DocFault}
use Rattle.cjson.specs.declared.fault.DocFault.TheVariants.{NotJson, NotObject, Float, BadSignatures}

-- # Checks in order: the result is that of the first that fails.

-- the next check, if none has failed
infixl 10 ◌>>=◌
abbrev pub ◌>>=◌ : {A B E : Type 0} → Result A E → (A → Result B E) → Result B E
Err e >>= f = Err e
Ok x >>= f = f x

-- the fault, if the check fails
abbrev pub refuse_if : {E : Type 0} → Bool → E → Result ⊤ E
refuse_if fails fault = if fails then Err fault else Ok tt

-- the value, or the fault if there is none
abbrev pub or_refuse : {A E : Type 0} → Option A → E → Result A E
or_refuse None fault = Err fault
or_refuse (Some x) fault = Ok x

-- # The document of a file.

pub record Document : Type 0 where
  pub signed : Data
  -- its canonical text, which signatures cover
  pub text : List ℕ
  pub entries : List Entry

-- the tree of a file's bytes, if they are JSON in UTF-8
abbrev pub tree_of : List ℕ → Option Data
tree_of file = if is_utf8 file then read file else None

-- the member `signed`, if it is an object
abbrev pub signed_of : Data → Option Data
signed_of tree = option_and_then (λ d. option_map object (as_object d)) (get (codes "signed") tree)

-- the same of a file
abbrev pub signed_in : List ℕ → Option Data
signed_in file = option_and_then signed_of (tree_of file)

-- the entries of the member `signatures`, a list
abbrev pub entries_of : Data → Option (List Entry)
entries_of tree = needed (codes "signatures") (list entry) tree

-- the document, or the first fault of the file
abbrev pub document : List ℕ → Result Document DocFault
document file = do
  tree ← or_refuse (tree_of file) NotJson
  signed ← or_refuse (signed_of tree) NotObject
  text ← or_refuse (canon signed) Float
  entries ← or_refuse (entries_of tree) BadSignatures
  Ok (record { signed = signed; text = text; entries = entries })

-- # What contracts see of a `Doc`.

abbrev pub doc_of : Doc → Document
doc_of d = record { signed = view d.tree; text = d.canonical.items; entries = d.listed }
