-- Items in the order of their names.
use Rattle.std.specs.Prelude.{ℕ, List, length, ◌≡◌}
use Rattle.std.specs.List.{AllAdjacentBelow}
use Rattle.std.specs.Cmp.Lexicographic.{slice_cmp}
use Rattle.std.specs.Ordering.{nat_cmp}
use Rattle.std.specs.declared.cmp.Ordering.TheVariants.{Less}

-- each name is below the one that follows, by its bytes
abbrev pub Ascend : {A : Type 0} → (A → List ℕ) → List A → Type 0
Ascend name items =
    AllAdjacentBelow (λ a b. slice_cmp nat_cmp (name a) (name b) ≡ Less) items (length items)
