-- The wanted paths that may have copies, one after another.
use Rattle.std.proofs.Common.{◌≡◌, ◌∙◌, ◌<◌, ◌≤◌, ◌+◌, ℕ, zero, suc, Bool, ◌&&◌, not, List, [], ◌∷◌, ◌++◌, length, Some, refl, sym, ap, subst, arith, ◌⊎◌, inl, inr}
use Rattle.std.proofs.lemmas.Bool.{cases_lt}
use Rattle.std.proofs.lemmas.List.{length-append}
use Rattle.std.proofs.lemmas.List.Sorted.{list_any-IsPermutation}
use Rattle.std.specs.List.{slice_get, starts_with}
use Rattle.std.specs.List.Sorted.{IsPermutation}
use Rattle.std.specs.Prelude.{nat_eq}
use Rattle.copies.specs.Paths.{is_below}
use Rattle.cycle.specs.declared.verdict.Verdict.{Verdict}
use Rattle.update.specs.Copies.{good_paths, is_good_at, may_have_copy}
use Rattle.update.specs.Stored.{AreCandidates}

-- the first ones
pub record AreFirstCandidates (wanted : List (List ℕ)) (verdicts : List Verdict) (n : ℕ) (flags : List Bool) : Type 0 where
  pub by_position : length flags ≡ n
  pub each : (i : ℕ) (path : List ℕ) → i < n → slice_get wanted i ≡ Some path → slice_get flags i ≡ Some (is_good_at verdicts i && may_have_copy (good_paths wanted verdicts) path)

pub no_candidates : (wanted : List (List ℕ)) (verdicts : List Verdict) → AreFirstCandidates wanted verdicts 0 []
no_candidates wanted verdicts = record { by_position = refl; each = λ i path below at. absurd (omega arith) }

-- the same among paths in another order
pub same_places : (paths sorted : List (List ℕ)) (path : List ℕ) → IsPermutation paths sorted → may_have_copy sorted path ≡ may_have_copy paths path
same_places paths sorted path moved = ap (λ b. is_below path && not b) (sym (list_any-IsPermutation (λ other. starts_with nat_eq other (path ++ 47 ∷ [])) paths sorted moved))

get_before : (flags : List Bool) (flag : Bool) (i : ℕ) → i < length flags → slice_get (flags ++ flag ∷ []) i ≡ slice_get flags i
get_before [] flag i below = absurd (omega arith)
get_before (x ∷ flags) flag zero below = refl
get_before (x ∷ flags) flag (suc i) below = get_before flags flag i (omega arith)

get_last : (flags : List Bool) (flag : Bool) → slice_get (flags ++ flag ∷ []) (length flags) ≡ Some flag
get_last [] flag = refl
get_last (x ∷ flags) flag = get_last flags flag

pub one_candidate : (wanted : List (List ℕ)) (verdicts : List Verdict) (n : ℕ) (flags : List Bool) (path : List ℕ) (flag : Bool) → slice_get wanted n ≡ Some path
    → flag ≡ (is_good_at verdicts n && may_have_copy (good_paths wanted verdicts) path) → AreFirstCandidates wanted verdicts n flags → AreFirstCandidates wanted verdicts (n + 1) (flags ++ flag ∷ [])
one_candidate wanted verdicts n flags path flag at is were = record {
  by_position = length-append flags (flag ∷ []) ∙ ap (λ k. k + 1) were.by_position;
  each = λ i p below there. by i p there (cases_lt i n) (omega arith);
}
  where
    by : (i : ℕ) (p : List ℕ) → slice_get wanted i ≡ Some p → (i < n) ⊎ (n ≤ i) → i ≤ n → slice_get (flags ++ flag ∷ []) i ≡ Some (is_good_at verdicts i && may_have_copy (good_paths wanted verdicts) p)
    by i p there (inl below) upto = get_before flags flag i (subst (λ k. i < k) (sym were.by_position) below) ∙ were.each i p below there
    by i p there (inr above) upto =
        let here : i ≡ n = omega arith in
        let same : p ≡ path = (let one = at in let two : slice_get wanted n ≡ Some p = subst (λ k. slice_get wanted k ≡ Some p) here there in cc) in
        let place : i ≡ length flags = here ∙ sym were.by_position in
        subst (λ k. slice_get (flags ++ flag ∷ []) k ≡ Some flag) (sym place) (get_last flags flag)
        ∙ ap Some (is ∙ ap (λ k. is_good_at verdicts k && may_have_copy (good_paths wanted verdicts) path) (sym here) ∙ ap (λ q. is_good_at verdicts i && may_have_copy (good_paths wanted verdicts) q) (sym same))

pub all_candidates : (wanted : List (List ℕ)) (verdicts : List Verdict) (n : ℕ) (flags : List Bool) → length wanted ≡ n → AreFirstCandidates wanted verdicts n flags → AreCandidates wanted verdicts flags
all_candidates wanted verdicts n flags count were = record {
  by_position = were.by_position ∙ sym count;
  each = λ i path at. were.each i path (subst (λ k. i < k) count (inside_of wanted i path at)) at;
}
  where
    inside_of : (l : List (List ℕ)) (i : ℕ) (path : List ℕ) → slice_get l i ≡ Some path → i < length l
    inside_of [] i path at = absurd (cc)
    inside_of (x ∷ l) zero path at = omega arith
    inside_of (x ∷ l) (suc i) path at = let more = inside_of l i path at in omega arith
