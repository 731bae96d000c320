-- A secret key whose leaves' values were stored, as contracts see it.
use Rattle.std.specs.Prelude.{ℕ, List}

pub record StoredKey : Type 0 where
  pub public : List ℕ
  -- how many leaves are gone
  pub used : ℕ
  pub leaves : ℕ
