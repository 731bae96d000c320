-- The rows of verdicts, each with its file.
use Rattle.std.proofs.Common.{◌≡◌, suc, zero, ℕ, ◌+◌, List, [], ◌∷◌, Option, None, drop, get_or, length, refl, subst, arith}
use Rattle.cycle.specs.declared.verdict.Verdict.{Verdict}
use Rattle.embed.specs.Jobs.{Given}
use Rattle.embed.specs.Rows.{verdict_role, verdict_row, verdict_rows}

row_next : (n i : ℕ) (v : Verdict) (vs : List Verdict) (gs : List (Option Given))
    → verdict_rows n (v ∷ vs) (drop i gs) ≡ verdict_row n v (get_or gs i None) ∷ verdict_rows (n + length (verdict_role v)) vs (drop (suc i) gs)
row_next n zero v vs [] = refl
row_next n zero v vs (g ∷ gs) = refl
row_next n (suc i) v vs [] = refl
row_next n (suc i) v vs (g ∷ gs) = row_next n i v vs gs

-- the row of a verdict, and then those of the verdicts after it
pub one_row : (n i : ℕ) (v : Verdict) (vs : List Verdict) (gs : List (Option Given))
    → verdict_rows n (v ∷ vs) (drop i gs) ≡ verdict_row n v (get_or gs i None) ∷ verdict_rows (n + length (verdict_role v)) vs (drop (i + 1) gs)
one_row n i v vs gs =
    let more : suc i ≡ i + 1 = omega arith in
    subst (λ k. verdict_rows n (v ∷ vs) (drop i gs) ≡ verdict_row n v (get_or gs i None) ∷ verdict_rows (n + length (verdict_role v)) vs (drop k gs))
    more (row_next n i v vs gs)
