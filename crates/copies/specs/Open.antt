-- A copy while it is written or compared.
use Rattle.std.specs.Prelude.{ℕ, List, Bool}
use Rattle.copies.specs.declared.below.Open.{Open}
use Rattle.copies.specs.declared.below.Open.TheVariants.{Written, Compared}

-- the bytes are those that were written to the file, or with which it has begun
abbrev pub took : {F : Type 0} → (F → List ℕ → Bool) → (F → List ℕ → Bool) → Open F → List ℕ → Bool
took has began (Written file) bytes = has file bytes
took has began (Compared file) bytes = began file bytes
