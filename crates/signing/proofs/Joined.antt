-- The entries of a file to which a signature was attached.
use Rattle.std.proofs.Common.{◌≡◌, ◌≢◌, ℕ, List, [], ◌∷◌, ◌++◌, Bool, true, false, ◌&&◌, ◌||◌, not, filter, Some, None, Ok, refl, sym, ◌∙◌, bytes_eq, if◌then◌else◌, true≢false}
use Rattle.std.specs.List.{list_any}
use Rattle.std.proofs.lemmas.Slice.Eq.{bytes_eq-Decides}
use Rattle.serde_json.specs.Data.{Data}
use Rattle.hex.specs.Hex.{encode_lower}
use Rattle.cjson.specs.Document.{Document, document, tree_of}
use Rattle.cjson.specs.declared.doc.Entry.{Entry}
use Rattle.keys.specs.Keys.{has_entry, is_signed_by}
use Rattle.keys.specs.declared.key.Key.{Key}
use Rattle.signing.specs.Attached.{IsAttached, IsInvalid, IsRefused, after, entries_after, is_good, is_stale, new_entry, staying}
use Rattle.signing.specs.Drafts.{draft, draft_in}
use Rattle.signing.specs.Invalids.{leaf_in, reason}
use Rattle.signing.specs.declared.attaching.Attached.{Attached}
use Rattle.signing.specs.declared.fault.AttachFault.{AttachFault}
use Rattle.signing.specs.declared.fault.AttachFault.TheVariants.{File, Signature, NoMemory}

-- ---- what stays

after-false : (b c : Bool) → b ≡ false → (b || c) ≡ true → c ≡ true
after-false true c e h = absurd (true≢false e)
after-false false c e h = h

both-false : (b c : Bool) → (b || c) ≡ false → (b ≡ false) × (c ≡ false)
both-false true c h = absurd (true≢false h)
both-false false c h = (refl, h)

either : (b c : Bool) → c ≡ true → (b || c) ≡ true
either true c h = refl
either false c h = h

or-same : (b c d : Bool) → (c ≡ true → d ≡ true) → (b || c) ≡ true → (b || d) ≡ true
or-same true c d f h = refl
or-same false c d f h = f h

not-good : (g s : Bool) → (g ≡ true → s ≡ false) → s ≡ true → g ≡ false
not-good true s f e = absurd (true≢false (sym e ∙ f refl))
not-good false s f e = refl

kept-if : {A : Type 0} (good stale : A → Bool) → ((a : A) → good a ≡ true → stale a ≡ false) → (x : A) (b : Bool) → stale x ≡ b → (kept rest : List A) → (list_any good rest ≡ true → list_any good kept ≡ true)
    → list_any good (x ∷ rest) ≡ true → list_any good (if not b then x ∷ kept else kept) ≡ true
kept-if good stale h x true s kept rest f any = f (after-false (good x) (list_any good rest) (not-good (good x) (stale x) (h x) s) any)
kept-if good stale h x false s kept rest f any = or-same (good x) (list_any good rest) (list_any good kept) f any

any-kept : {A : Type 0} (good stale : A → Bool) → ((a : A) → good a ≡ true → stale a ≡ false) → (xs : List A) → list_any good xs ≡ true → list_any good (filter (λ a. not (stale a)) xs) ≡ true
any-kept good stale h [] any = any
any-kept good stale h (x ∷ xs) any = kept-if good stale h x (stale x) refl _ xs (any-kept good stale h xs) any

none-kept-if : {A : Type 0} (stale : A → Bool) (x : A) (b : Bool) → stale x ≡ b → (kept : List A) → list_any stale kept ≡ false → list_any stale (if not b then x ∷ kept else kept) ≡ false
none-kept-if stale x true s kept h = h
none-kept-if stale x false s kept h = rw s h

none-kept : {A : Type 0} (stale : A → Bool) (xs : List A) → list_any stale (filter (λ a. not (stale a)) xs) ≡ false
none-kept stale [] = refl
none-kept stale (x ∷ xs) = none-kept-if stale x (stale x) refl _ (none-kept stale xs)

any-left : {A : Type 0} (f : A → Bool) (xs ys : List A) → list_any f xs ≡ true → list_any f (xs ++ ys) ≡ true
any-left f [] ys h = absurd (true≢false (sym h))
any-left f (x ∷ xs) ys h = or-same (f x) (list_any f xs) _ (any-left f xs ys) h

any-right : {A : Type 0} (f : A → Bool) (xs ys : List A) → list_any f ys ≡ true → list_any f (xs ++ ys) ≡ true
any-right f [] ys h = h
any-right f (x ∷ xs) ys h = either (f x) _ (any-right f xs ys h)

none-both : {A : Type 0} (f : A → Bool) (xs ys : List A) → list_any f xs ≡ false → list_any f ys ≡ false → list_any f (xs ++ ys) ≡ false
none-both f [] ys h k = k
none-both f (x ∷ xs) ys h k = let parts = both-false (f x) (list_any f xs) h in rw parts.0 (none-both f xs ys parts.1 k)

-- ---- the entries afterwards

good-not_stale : (a b : Bool) → (a && b) ≡ true → (a && not b) ≡ false
good-not_stale true true h = refl
good-not_stale true false h = absurd (true≢false (sym h))
good-not_stale false b h = refl

same-id : (id : List ℕ) → bytes_eq id id ≡ true
same-id id = (bytes_eq-Decides id id).1 refl

not_stale-if : (a b : Bool) → b ≡ true → ((a && not b) || false) ≡ false
not_stale-if true true h = refl
not_stale-if true false h = absurd (true≢false (sym h))
not_stale-if false b h = refl

new-good : (key : Key) (message sig : List ℕ) → is_signed_by key.public message sig ≡ true → list_any (is_good key message) (new_entry key (Some sig)) ≡ true
new-good key message sig valid = rw (same-id key.id, valid) refl

new-none_stale : (key : Key) (message sig : List ℕ) → is_signed_by key.public message sig ≡ true → list_any (is_stale key message) (new_entry key (Some sig)) ≡ false
new-none_stale key message sig valid = not_stale-if (bytes_eq key.id key.id) _ valid

signed-by : (key : Key) (sig message : List ℕ) (es : List Entry) (b : Bool) → has_entry message es key ≡ b → is_signed_by key.public message (encode_lower sig) ≡ true
    → has_entry message (staying key message es ++ new_entry key (if b then None else Some (encode_lower sig))) key ≡ true
signed-by key sig message es true has valid = any-left (is_good key message) (staying key message es) [] (any-kept (is_good key message) (is_stale key message) (λ e. good-not_stale _ _) es has)
signed-by key sig message es false has valid = any-right (is_good key message) (staying key message es) _ (new-good key message (encode_lower sig) valid)

none_stale-by : (key : Key) (sig message : List ℕ) (es : List Entry) (b : Bool) → is_signed_by key.public message (encode_lower sig) ≡ true
    → list_any (is_stale key message) (staying key message es ++ new_entry key (if b then None else Some (encode_lower sig))) ≡ false
none_stale-by key sig message es true valid = none-both _ (staying key message es) [] (none-kept (is_stale key message) es) refl
none_stale-by key sig message es false valid = none-both _ (staying key message es) _ (none-kept (is_stale key message) es) (new-none_stale key message (encode_lower sig) valid)

-- ---- what a call returns

draft-of : (file : List ℕ) (tree : Data) (d : Document) → tree_of file ≡ Some tree → draft_in tree ≡ Ok d → draft file ≡ Ok d
draft-of file tree d t e = rw (t, e) refl

pub attached-by : (file : List ℕ) (tree : Data) (d : Document) (key : Key) (sig : List ℕ) (a : Attached)
    → tree_of file ≡ Some tree → draft_in tree ≡ Ok d → is_signed_by key.public d.text (encode_lower sig) ≡ true
    → document a.file.items ≡ Ok (after key sig d) → a.is_new ≡ not (has_entry d.text d.entries key) → a.leaf ≡ leaf_in sig → IsAttached file key sig a
attached-by file tree d key sig a t e valid written new leaf = record {
  document = d;
  read = draft-of file tree d t e;
  written = written;
  new = new;
  leaf = leaf;
  valid = valid;
  signed = signed-by key sig d.text d.entries _ refl valid;
  none_stale = none_stale-by key sig d.text d.entries _ valid;
}

pub refused-by : (file : List ℕ) (tree : Data) (d : Document) (key : Key) (sig : List ℕ) (f : AttachFault)
    → tree_of file ≡ Some tree → draft_in tree ≡ Ok d → (f ≢ NoMemory → f ≡ Signature (reason key.public sig)) → (f ≢ NoMemory → is_signed_by key.public d.text (encode_lower sig) ≡ false)
    → IsRefused file key sig f
refused-by file tree d key sig (Signature why) t e r i = record {
  document = d;
  read = draft-of file tree d t e;
  invalid = i (λ h. cc h);
  reason = r (λ h. cc h);
}
refused-by file tree d key sig (File f) t e r i = absurd (cc (r (λ h. cc h)))
refused-by file tree d key sig NoMemory t e r i = tt
