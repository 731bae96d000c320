-- The lines that say why, beside those of an outcome.
use Rattle.std.specs.List.{slice_get}
use Rattle.std.specs.Prelude.{ℕ, List, [], Option, None, Some, unwrap_or}

-- why a cycle stopped, and for each wanted path, by position, why it is refused, if that is asked
-- for
pub record Whys : Type 0 where
  pub stop : List ℕ
  pub paths : Option (List (List ℕ))

abbrev pub nothing : Whys
nothing = record { stop = []; paths = None }

-- those of the path at a position
abbrev pub why_at : Option (List (List ℕ)) → ℕ → List ℕ
why_at None i = []
why_at (Some texts) i = unwrap_or (slice_get texts i) []
