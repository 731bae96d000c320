-- Where a role is among roles that ascend.
use Rattle.std.proofs.Common.{◌≡◌, ◌∙◌, ◌||◌, subst, ℕ, zero, suc, ◌+◌, ◌<◌, ◌≤◌, List, [], ◌∷◌, length, get_or, Bool, true, false, Ordering, Less, Equal, Greater, nat_cmp, bytes_eq, refl, sym, ap, arith}
use Rattle.std.specs.Cmp.Lexicographic.{slice_cmp}
use Rattle.std.specs.List.{HoldsAt, insert, prefix_len}
use Rattle.std.specs.List.Sorted.{IsNonDecreasingBy, IsPartitionPoint}
use Rattle.std.specs.Ordering.{is_eq, ordering_index}
use Rattle.std.proofs.lemmas.Bool.{and_parts}
use Rattle.std.proofs.lemmas.Map.Text.{is_eq-slice_cmp}
use Rattle.meta.specs.Catalog.{Ascend}
use Rattle.meta.proofs.Ascending.{comparisons_rise}
use Rattle.deleg.specs.Search.{has_role}
use Rattle.deleg.specs.declared.accepted.Accepted.{Accepted}
use Rattle.cycle.proofs.Gathered.{less}
use Rattle.cycle.specs.Workflow.{is_ascending, is_below, with_role}

ascend : (all : List Accepted) → is_ascending all ≡ true → Ascend (λ a. a.role) all
ascend [] h k d high = absurd (omega arith)
ascend (a ∷ []) h k d high = absurd (omega arith)
ascend (a ∷ b ∷ more) h zero d high =
    less (slice_cmp nat_cmp a.role b.role) (and_parts _ _ (and_parts _ _ h).0).0
ascend (a ∷ b ∷ more) h (suc k) d high =
    let rest : is_ascending (b ∷ more) ≡ true = (and_parts _ _ h).1 in
    let next : suc (k + 1) ≡ suc k + 1 = omega arith in
    subst (λ n. slice_cmp nat_cmp (get_or (b ∷ more) k d).role (get_or (a ∷ b ∷ more) n d).role ≡ Less) next (ascend (b ∷ more) rest k d (omega arith))

-- the comparisons with a name are in order, as a binary search requires
pub rises : (all : List Accepted) (role : List ℕ) → is_ascending all ≡ true → IsNonDecreasingBy (λ a. ordering_index (slice_cmp nat_cmp a.role role)) all
rises all role h = comparisons_rise (λ a. a.role) all (ascend all h) role

equal_as : (xs ys : List ℕ) (o : Ordering) → slice_cmp nat_cmp xs ys ≡ o → bytes_eq xs ys ≡ is_eq o
equal_as xs ys o is = sym (is_eq-slice_cmp xs ys) ∙ ap is_eq is

among : (all : List Accepted) (role : List ℕ) (i : ℕ) → i < length all → HoldsAt (λ b. slice_cmp nat_cmp b.role role ≡ Equal) all i → has_role all role ≡ true
among [] role i high here = absurd (omega arith)
among (x ∷ xs) role zero high here = rw (equal_as x.role role Equal (here x)) refl
among (x ∷ xs) role (suc i) high here = each (bytes_eq x.role role) (among xs role i (omega arith) (λ d. here d))
  where
    each : (b : Bool) → has_role xs role ≡ true → (b || has_role xs role) ≡ true
    each true is = refl
    each false is = is

-- the role is there
pub found : (all : List Accepted) (a : Accepted) (i : ℕ) → i < length all → HoldsAt (λ b. slice_cmp nat_cmp b.role a.role ≡ Equal) all i → all ≡ with_role all a
found all a i high here = rw (among all a.role i high here) refl

behind : (xs : List Accepted) (role : List ℕ) (i : ℕ) → i ≤ length xs → IsPartitionPoint (λ b. slice_cmp nat_cmp b.role role ≡ Less) (λ b. slice_cmp nat_cmp b.role role ≡ Greater) xs i
    → (has_role xs role ≡ false) × (i ≡ prefix_len (is_below role) xs)
behind [] role i most parts = (refl, omega arith)
behind (x ∷ xs) role zero most parts =
    let above = parts.1 0 x (omega arith) (omega arith) in
    let rest = behind xs role zero (omega arith) ((λ k d low high. absurd (omega arith)), (λ k d low high. parts.1 (suc k) d (omega arith) (omega arith))) in
    (rw (equal_as x.role role Greater above) rest.0, rw above refl)
behind (x ∷ xs) role (suc i) most parts =
    let below = parts.0 0 x (omega arith) (omega arith) in
    let rest = behind xs role i (omega arith) ((λ k d low high. parts.0 (suc k) d (omega arith) (omega arith)), (λ k d low high. parts.1 (suc k) d (omega arith) (omega arith))) in
    let next : suc i ≡ 1 + i = omega arith in
    (rw (equal_as x.role role Less below) rest.0, rw below (next ∙ ap (λ n. 1 + n) rest.1))

-- the role isn't there, and its place is behind those below it
pub added : (all : List Accepted) (a : Accepted) (i : ℕ) → i ≤ length all → IsPartitionPoint (λ b. slice_cmp nat_cmp b.role a.role ≡ Less) (λ b. slice_cmp nat_cmp b.role a.role ≡ Greater) all i
    → insert all i a ≡ with_role all a
added all a i most parts =
    let is = behind all a.role i most parts in
    rw is.0 (ap (λ n. insert all n a) is.1)
