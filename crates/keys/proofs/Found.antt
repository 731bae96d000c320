-- Ids and entries that are looked up by a key's id.
use Rattle.std.proofs.Common.{◌≡◌, ℕ, ◌+◌, ◌<◌, Bool, true, false, cond, ◌||◌, ◌&&◌, List, [], ◌∷◌, ◌++◌, length, get_or, take, map, filter, Option, nat_cmp, bytes_eq, Bor, refl, sym, ap, ◌∙◌}
use Rattle.std.proofs.lemmas.List.{take_more}
use Rattle.std.proofs.lemmas.List.Folds.{list_any-append}
use Rattle.std.proofs.lemmas.Bool.Decides.{same_from_decides, Decides-like}
use Rattle.std.proofs.lemmas.Slice.Eq.{bytes_eq-Decides}
use Rattle.std.proofs.lemmas.Map.Text.{is_eq-slice_cmp}
use Rattle.std.specs.List.{list_any}
use Rattle.std.specs.Cmp.Lexicographic.{slice_cmp}
use Rattle.std.specs.BTreeSet.{BTreeSet, Updates}
use Rattle.cjson.specs.declared.doc.Entry.{Entry}
use Rattle.keys.specs.Keys.{has_id, placed_of}
use Rattle.keys.specs.declared.entries.Placed.{Placed}

turned : (a b : List ℕ) → bytes_eq a b ≡ bytes_eq b a
turned a b = same_from_decides _ _ (bytes_eq-Decides a b) (Decides-like _ sym sym (bytes_eq-Decides b a))

either : (a b : Bool) → cond b true a ≡ (a || (b || false))
either true true = refl
either true false = refl
either false true = refl
either false false = refl

-- one id more in the set
pub listed_more : (s n : BTreeSet (Bor (List ℕ))) (k : Bor (List ℕ)) (x : List ℕ) (ids : List (List ℕ)) (i : ℕ) → Updates (λ a b. slice_cmp nat_cmp a.now b.now) s n k true
    → i < length ids → x ≡ get_or ids i x → k.now ≡ x → ((q : List ℕ) → has_id s q ≡ list_any (bytes_eq q) (take i ids))
    → (q : List ℕ) → has_id n q ≡ list_any (bytes_eq q) (take (i + 1) ids)
listed_more s n k x ids i put within is same was q =
    put.0 (record { ref_ptr = (0, 0); now = q })
    ∙ ap (λ b. cond b true (has_id s q)) (is_eq-slice_cmp k.now q ∙ turned k.now q ∙ ap (bytes_eq q) same)
    ∙ ap (cond (bytes_eq q x) true) (was q)
    ∙ either _ _
    ∙ sym (ap (list_any (bytes_eq q)) (take_more ids i x within ∙ ap (λ k. take i ids ++ k ∷ []) (sym is)) ∙ list_any-append (bytes_eq q) (take i ids) (x ∷ []))

under_one : (f : List ℕ → Bool) (id : List ℕ) (e : Entry) (es : List Entry) (b : Bool) → bytes_eq id e.keyid ≡ b → bytes_eq e.keyid id ≡ b
    → list_any f (map (λ e. e.sig) (filter (λ e. bytes_eq id e.keyid) es)) ≡ list_any (λ e. bytes_eq e.keyid id && f e.sig) es
    → list_any f (map (λ e. e.sig) (filter (λ e. bytes_eq id e.keyid) (e ∷ es))) ≡ list_any (λ e. bytes_eq e.keyid id && f e.sig) (e ∷ es)
under_one f id e es true here back others = rw here (rw back (ap (λ r. f e.sig || r) others))
under_one f id e es false here back others = rw here (rw back others)

any_under : (f : List ℕ → Bool) (id : List ℕ) (es : List Entry) → list_any f (map (λ e. e.sig) (filter (λ e. bytes_eq id e.keyid) es)) ≡ list_any (λ e. bytes_eq e.keyid id && f e.sig) es
any_under f id [] = refl
any_under f id (e ∷ es) = under_one f id e es (bytes_eq id e.keyid) refl (turned e.keyid id) (any_under f id es)

any_placed : (f : List ℕ → Bool) (ps : List Placed) → list_any f (map (λ p. p.sig.now) ps) ≡ list_any (λ p. f p.sig.now) ps
any_placed f [] = refl
any_placed f (p ∷ ps) = ap (λ r. f p.sig.now || r) (any_placed f ps)

-- a test of all entries under an id is one of those found there
pub found : (f : List ℕ → Bool) (id : List ℕ) (es : List Entry) (o : Option (Bor (List Placed))) (sigs : List (List ℕ)) → map (λ p. p.sig.now) (placed_of o) ≡ sigs → sigs ≡ map (λ e. e.sig) (filter (λ e. bytes_eq id e.keyid) es)
    → list_any (λ e. bytes_eq e.keyid id && f e.sig) es ≡ list_any (λ p. f p.sig.now) (placed_of o)
found f id es o sigs at is = sym (any_under f id es) ∙ ap (list_any f) (sym is ∙ sym at) ∙ any_placed f (placed_of o)
