-- Metadata files that may not be signed yet: documents whose `signatures` may be absent (TUF 1.0
-- section 4.2).
use Rattle.std.specs.Prelude.{ℕ, List, [], codes, Option, Result, Ok, Err, option_map, unwrap_or}
use Rattle.serde_json.specs.View.{view}
use Rattle.cjson.specs.Canon.{canon}
use Rattle.cjson.specs.Document.{◌>>=◌, Document, or_refuse, signed_of, tree_of}
use Rattle.cjson.specs.Form.{Data, entry, list, optional}
use Rattle.cjson.specs.declared.doc.Entry.{Entry}
use Rattle.cjson.specs.declared.fault.DocFault.{DocFault}
use Rattle.cjson.specs.declared.fault.DocFault.TheVariants.{NotJson, NotObject, Float, BadSignatures}
use Rattle.signing.specs.declared.metadata.Draft.{Draft}

-- the entries of the member `signatures`, or none if it is absent
abbrev pub entries_in : Data → Option (List Entry)
entries_in tree =
    option_map (λ found. unwrap_or found []) (optional (codes "signatures") (list entry) tree)

-- the document, or the first fault of the tree
abbrev pub draft_in : Data → Result Document DocFault
draft_in tree = do
  signed ← or_refuse (signed_of tree) NotObject
  text ← or_refuse (canon signed) Float
  entries ← or_refuse (entries_in tree) BadSignatures
  Ok (record { signed = signed; text = text; entries = entries })

-- the same of a file
abbrev pub draft : List ℕ → Result Document DocFault
draft file = do
  tree ← or_refuse (tree_of file) NotJson
  draft_in tree

-- the text that signatures cover
abbrev pub signed_text : List ℕ → Result (List ℕ) DocFault
signed_text file = do
  found ← draft file
  Ok found.text

-- what contracts see of a draft
abbrev pub document_of : Draft → Document
document_of d = record { signed = view d.signed.now; text = d.text.items; entries = d.entries }
