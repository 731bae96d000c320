-- The names of each object of a document ascend.
use Rattle.std.proofs.Common.{◌≡◌, ℕ, ◌&&◌, Bool, true, false, List, Option, Some, None, Result, Ok, Err, if◌then◌else◌, refl, ap, subst}
use Rattle.std.proofs.lemmas.Option.{none-some}
use Rattle.serde_json.specs.Data.{Data}
use Rattle.cjson.specs.Canon.{canon, has_whole_numbers, is_ordered}
use Rattle.cjson.specs.Document.{◌>>=◌, Document, document, entries_of, or_refuse, signed_of, tree_of}
use Rattle.cjson.specs.declared.fault.DocFault.TheVariants.{NotJson, NotObject, Float, BadSignatures}

bound-ok : {A B E : Type 0} (r : Result A E) (f : A → Result B E) (b : B) → (r >>= f) ≡ Ok b → (a : A) × (r ≡ Ok a) × (f a ≡ Ok b)
bound-ok (Ok a) f b h = (a, refl, h)
bound-ok (Err e) f b h = absurd (cc)

given : {A E : Type 0} (o : Option A) (e : E) (a : A) → or_refuse o e ≡ Ok a → o ≡ Some a
given (Some b) e a h = cc
given None e a h = absurd (cc)

same-ok : {A E : Type 0} (a b : A) → ◌≡◌ {A = Result A E} (Ok a) (Ok b) → a ≡ b
same-ok a b h = cc

ordered-if : (a b : Bool) (x y : List ℕ) → (if a && b then Some x else None) ≡ Some y → b ≡ true
ordered-if true true x y h = refl
ordered-if true false x y h = absurd (none-some y h)
ordered-if false b x y h = absurd (none-some y h)

pub ordered-signed : (file : List ℕ) (d : Document) → document file ≡ Ok d → is_ordered d.signed ≡ true
ordered-signed file d h =
    let tree = bound-ok (or_refuse (tree_of file) NotJson) _ d h in
    let signed = bound-ok (or_refuse (signed_of tree.0) NotObject) _ d tree.2 in
    let text = bound-ok (or_refuse (canon signed.0) Float) _ d signed.2 in
    let entries = bound-ok (or_refuse (entries_of tree.0) BadSignatures) _ d text.2 in
    let same : signed.0 ≡ d.signed = ap (λ (r : Document). r.signed) (same-ok _ d entries.2) in
    subst (λ s. is_ordered s ≡ true) same (ordered-if (has_whole_numbers signed.0) (is_ordered signed.0) _ text.0 (given (canon signed.0) Float text.0 text.1))
