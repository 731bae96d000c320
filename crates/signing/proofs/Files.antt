-- Files of JSON that were read, and files that are written.
use Rattle.std.proofs.Common.{◌≡◌, ℕ, ◌≤◌, ◌<◌, suc, List, [], ◌∷◌, map, Bool, true, false, Option, Some, None, IsSome, is_some, option_map, option_and_then, Ordering, Less, Equal, Greater, codes, refl, sym, subst, ap, ◌∙◌, arith, Ok, true≢false}
use Rattle.std.proofs.lemmas.Option.{none-some, same_Some}
use Rattle.std.specs.Ordering.{match_ordering, nat_cmp}
use Rattle.std.specs.Cmp.Lexicographic.{slice_cmp}
use Rattle.std.specs.Str.{IsUtf8}
use Rattle.std.specs.Prelude.{Err, IfOk, Result, Vec}
use Rattle.std.specs.declared.alloc.Global.{Global}
use Rattle.std.specs.declared.alloc.AllocError.{AllocError}
use Rattle.serde_json.specs.Data.{Data, object, array, Items, no_items, item, Members, no_members, member, depth, items_depth, members_depth}
use Rattle.serde_json.specs.Find.{get, get_member, as_object}
use Rattle.serde_json.specs.Read.{max_depth, read}
use Rattle.serde_json.specs.View.{items_of, items_view, view}
use Rattle.serde_json.specs.declared.value.Value.{Value}
use Rattle.cjson.specs.Canon.{canon}
use Rattle.cjson.specs.Document.{document, entries_of, signed_of, tree_of}
use Rattle.cjson.specs.Form.{each, entry}
use Rattle.cjson.specs.declared.doc.Entry.{Entry}
use Rattle.cjson.proofs.OnLiterals.{cjson_on_literals}
use Rattle.cjson.proofs.Trees.{tree_of-read}
use Rattle.seals.specs.Sealed.{entry_object, entry_objects, sealed}

-- ---- a member is less deep than its object

below-match : (o : Ordering) (e d : Data) (rest : Option Data) (n : ℕ) → (rest ≡ Some d → depth d ≤ n) → depth e ≤ n → match_ordering o rest (Some e) rest ≡ Some d → depth d ≤ n
below-match Less e d rest n f g h = f h
below-match Equal e d rest n f g h = subst (λ x. depth x ≤ n) (same_Some e d h) g
below-match Greater e d rest n f g h = f h

below-member : (k : List ℕ) (ms : Members) (d : Data) → get_member k ms ≡ Some d → depth d ≤ members_depth ms
below-member k no_members d h = absurd (none-some d h)
below-member k (member l e ms) d h =
    below-match (slice_cmp nat_cmp k l) e d (get_member k ms) (members_depth (member l e ms)) (λ x. omega (arith, below-member k ms d x)) (omega arith) h

pub below-object : (k : List ℕ) (tree d : Data) → get k tree ≡ Some d → depth d < depth tree
below-object k (object ms) d h = omega (arith, below-member k ms d h)
below-object k _ d h = absurd (none-some d h)

-- ---- a file of entries that signs a value

items-entries : (es : List Entry) → items_of (map entry_object es) ≡ entry_objects es
items-entries [] = refl
items-entries (e ∷ es) = ap (item (entry_object e)) (items-entries es)

pub view-entries : (vs : List Value) (es : List Entry) → map view vs ≡ map entry_object es → items_view vs ≡ entry_objects es
view-entries vs es h = ap items_of h ∙ items-entries es

each-entries : (es : List Entry) → each entry (entry_objects es) ≡ Some es
unfolding cjson_on_literals
each-entries [] = refl
each-entries (e ∷ es) = rw (each-entries es) refl

entries-depth : (es : List Entry) → items_depth (entry_objects es) ≤ 1
entries-depth [] = omega arith
entries-depth (e ∷ es) = omega (arith, entries-depth es)

-- it is no deeper than the file was
pub depth-sealed : (d : Data) (es : List Entry) → depth d < max_depth → depth (sealed d es) ≤ max_depth
depth-sealed d es h = omega (arith, h, entries-depth es)

entries-sealed : (d : Data) (es : List Entry) → entries_of (sealed d es) ≡ Some es
unfolding cjson_on_literals
entries-sealed d es = each-entries es

signed-sealed : (ms : Members) (es : List Entry) → signed_of (sealed (object ms) es) ≡ Some (object ms)
unfolding cjson_on_literals
signed-sealed ms es = refl

document-steps : (file : List ℕ) (tree signed : Data) (text : List ℕ) (es : List Entry) → tree_of file ≡ Some tree → signed_of tree ≡ Some signed → canon signed ≡ Some text → entries_of tree ≡ Some es
    → document file ≡ Ok (record { signed = signed; text = text; entries = es })
document-steps file tree signed text es t s c e = rw (t, s, c, e) refl

of-object : (file text : List ℕ) (d : Data) (es : List Entry) → IsSome (as_object d) → tree_of file ≡ Some (sealed d es) → canon d ≡ Some text → document file ≡ Ok (record { signed = d; text = text; entries = es })
of-object file text (object ms) es is t c = document-steps file _ (object ms) text es t (signed-sealed ms es) c (entries-sealed (object ms) es)
of-object file text _ es is t c = absurd (true≢false (sym is))

-- what is read of a file that was written
pub document-sealed : (file text : List ℕ) (d : Data) (es : List Entry) → IsUtf8 file → IsSome (as_object d) → read file ≡ Some (sealed d es) → canon d ≡ Some text → document file ≡ Ok (record { signed = d; text = text; entries = es })
document-sealed file text d es utf8 is r c = of-object file text d es is (tree_of-read file (sealed d es) utf8 r) c

-- the same of what a writer returns
pub written : (r : Result (Vec ℕ Global) AllocError) (v d : Data) (vs : List Value) → ((es : List Entry) → items_view vs ≡ entry_objects es → v ≡ sealed d es) → IsSome (as_object d) → depth d < max_depth
    → IfOk r (λ b. IsUtf8 b.items) → IfOk r (λ b. depth v ≤ max_depth → read b.items ≡ Some v)
    → IfOk r (λ file. (es : List Entry) (text : List ℕ) → map view vs ≡ map entry_object es → canon d ≡ Some text → document file.items ≡ Ok (record { signed = d; text = text; entries = es }))
written (Err e) v d vs is has below utf8 back = tt
written (Ok b) v d vs is has below utf8 back = λ es text same c.
    let whole : v ≡ sealed d es = is es (view-entries vs es same) in
    document-sealed b.items text d es utf8 has (back (rw whole (depth-sealed d es below)) ∙ ap Some whole) c
