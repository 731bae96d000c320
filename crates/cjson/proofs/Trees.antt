-- The tree of a file, and what is found in it.
use Rattle.std.proofs.Common.{◌≡◌, ℕ, List, Bool, true, false, Option, Some, None, Result, Ok, Err, IfOk, option_map, option_and_then, string_bytes, nat_cmp, is_some, codes, refl, sym, ap, ◌∙◌, true≢false}
use Rattle.std.specs.Prelude.{if◌then◌else◌}
use Rattle.std.specs.BTreeMap.{is_at}
use Rattle.std.specs.Cmp.Lexicographic.{slice_cmp}
use Rattle.std.specs.Map.{lookup}
use Rattle.std.specs.Str.{IsUtf8, is_utf8}
use Rattle.std.proofs.lemmas.Str.{is_utf8-from_IsUtf8, IsUtf8-from_is_utf8}
use Rattle.serde_json.specs.Data.{Data, object, Members}
use Rattle.serde_json.specs.Read.{read}
use Rattle.serde_json.specs.Find.{get_member, as_object}
use Rattle.cjson.specs.Tree.{view, members_view}
use Rattle.cjson.proofs.Views.{Entry, view-lookup}
use Rattle.cjson.specs.declared.tree.Tree.{Tree}
use Rattle.cjson.specs.Document.{tree_of, signed_of}
use Rattle.cjson.specs.Form.{ReadsAs}
use Rattle.cjson.specs.declared.fault.ReadFault.{ReadFault}
use Rattle.cjson.specs.declared.fault.ReadFault.TheVariants.{Malformed, NoMemory}

pub tree_of-read : (file : List ℕ) (d : Data) → IsUtf8 file → read file ≡ Some d → tree_of file ≡ Some d
tree_of-read file d utf8 reads = rw (is_utf8-from_IsUtf8 file utf8) reads

no_tree_at : (file : List ℕ) (b : Bool) → is_utf8 file ≡ b → (IsUtf8 file → read file ≡ None) → (if b then read file else None) ≡ None
no_tree_at file true utf8 none = none (IsUtf8-from_is_utf8 file utf8)
no_tree_at file false utf8 none = refl

pub tree_of-none : (file : List ℕ) → (IsUtf8 file → read file ≡ None) → tree_of file ≡ None
tree_of-none file none = no_tree_at file _ refl none

-- what is read of the text of the bytes
pub tree_of-whole : (file text : List ℕ) (r : Result Tree ReadFault) → text ≡ file → IsUtf8 file → IfOk r (λ v. read text ≡ Some (view v)) → (r ≡ Err Malformed → read text ≡ None) → ReadsAs (tree_of file) r view
tree_of-whole file text (Ok v) same utf8 ok err = tree_of-read file (view v) utf8 (ap read (sym same) ∙ ok)
tree_of-whole file text (Err Malformed) same utf8 ok err = tree_of-none file (λ _. ap read (sym same) ∙ err refl)
tree_of-whole file text (Err NoMemory) same utf8 ok err = tt

-- what `get` and `take` of the members return is the tree's member
pub found_at : (name : List ℕ) (es : List Entry) (r : Option Tree) → r ≡ lookup (is_at (λ k. slice_cmp nat_cmp name (string_bytes k))) es → get_member name (members_view es) ≡ option_map view r
found_at name es r e = sym (ap (option_map view) e ∙ view-lookup name es)

-- ---- the member `signed`

signed_object : (d : Data) → is_some (as_object d) ≡ true → option_map object (as_object d) ≡ Some d
signed_object (object ms) h = refl
signed_object d h = absurd (true≢false (sym h))

signed_other : (d : Data) → is_some (as_object d) ≡ false → option_map object (as_object d) ≡ None
signed_other (object ms) h = absurd (true≢false h)
signed_other d h = refl

pub signed_of-some : (ms : Members) (d : Data) → get_member (codes "signed") ms ≡ Some d → is_some (as_object d) ≡ true → signed_of (object ms) ≡ Some d
signed_of-some ms d found is = ap (option_and_then (λ x. option_map object (as_object x))) found ∙ signed_object d is

pub signed_of-other : (ms : Members) (d : Data) → get_member (codes "signed") ms ≡ Some d → is_some (as_object d) ≡ false → signed_of (object ms) ≡ None
signed_of-other ms d found is = ap (option_and_then (λ x. option_map object (as_object x))) found ∙ signed_other d is

pub signed_of-none : (ms : Members) → get_member (codes "signed") ms ≡ None → signed_of (object ms) ≡ None
signed_of-none ms none = ap (option_and_then (λ x. option_map object (as_object x))) none
