-- How many values a list has, each counted once.
use Rattle.std.proofs.Common.{◌≡◌, ℕ, ◌+◌, ◌<◌, Bool, true, false, cond, refl, arith, not, Bor, if◌then◌else◌, List, [], ◌∷◌, ◌++◌, length, get_or, take, sym, ap, ◌∙◌, nat_cmp, bytes_eq}
use Rattle.std.proofs.lemmas.List.{take_more}
use Rattle.std.specs.Cmp.Lexicographic.{slice_cmp, nat_list_cmp_total}
use Rattle.std.specs.BTreeSet.{BTreeSet, IsEmpty}
use Rattle.std.specs.FinSet as set
use Rattle.std.specs.List.{list_any}
use Rattle.keys.specs.Keys.{has_id}
use Rattle.keys.proofs.Sets.{contains_values, values, values_push}

one_more : (b : Bool) (n : ℕ) → n + (if not b then 1 else 0) ≡ cond b n (n + 1)
one_more true n = omega arith
one_more false n = refl

pub counted_more : (ids : List (List ℕ)) (i : ℕ) (x : List ℕ) (n m : ℕ) (b : Bool) → i < length ids → x ≡ get_or ids i x → b ≡ not (list_any (bytes_eq x) (take i ids)) → n ≡ set.len (values (take i ids)) → m ≡ n + (if b then 1 else 0)
    → m ≡ set.len (values (take (i + 1) ids))
counted_more ids i x n m b within is new so_far next =
    next
    ∙ ap (λ b. n + (if b then 1 else 0)) new
    ∙ one_more (list_any (bytes_eq x) (take i ids)) n
    ∙ ap (λ b. cond b n (n + 1)) (sym (contains_values (take i ids) x))
    ∙ ap (λ k. cond (set.contains (values (take i ids)) x) k (k + 1)) so_far
    ∙ sym (set.len-insert nat_list_cmp_total (values (take i ids)) x)
    ∙ ap set.len (sym (values_push (take i ids) x))
    ∙ ap (λ ks. set.len (values ks)) (sym (take_more ids i x within ∙ ap (λ k. take i ids ++ k ∷ []) (sym is)))

-- before the first value
pub none_counted : (ids : List (List ℕ)) → set.len (values (take 0 ids)) ≡ 0
none_counted [] = set.len-empty (slice_cmp nat_cmp)
none_counted (id ∷ ids) = set.len-empty (slice_cmp nat_cmp)

pub none_listed : (s : BTreeSet (Bor (List ℕ))) → IsEmpty s → (ids : List (List ℕ)) (q : List ℕ) → has_id s q ≡ list_any (bytes_eq q) (take 0 ids)
none_listed s h [] q = rw h refl
none_listed s h (id ∷ ids) q = rw h refl
