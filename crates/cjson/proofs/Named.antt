-- The search for a member by its name, a step at a time.
use Rattle.std.proofs.Common.{◌≡◌, ℕ, List, ◌∷◌, Some, String, Global, string_bytes, true, false, bytes_eq, cond, ap, ◌∙◌}
use Rattle.std.proofs.lemmas.Map.Text.{is_eq-slice_cmp}
use Rattle.cjson.specs.Names.{named}

pub named-step : {X : Type 0} (name : List ℕ) (e : String Global × X) (es : List (String Global × X)) → named name (e ∷ es) ≡ cond (bytes_eq name (string_bytes e.0)) (Some e.1) (named name es)
named-step name e es = ap (λ b. cond b (Some e.1) (named name es)) (is_eq-slice_cmp name (string_bytes e.0))

pub named-here : {X : Type 0} (name : List ℕ) (e : String Global × X) (es : List (String Global × X)) → bytes_eq name (string_bytes e.0) ≡ true → named name (e ∷ es) ≡ Some e.1
named-here name e es is = named-step name e es ∙ ap (λ b. cond b (Some e.1) (named name es)) is

pub named-later : {X : Type 0} (name : List ℕ) (e : String Global × X) (es : List (String Global × X)) → bytes_eq name (string_bytes e.0) ≡ false → named name (e ∷ es) ≡ named name es
named-later name e es is = named-step name e es ∙ ap (λ b. cond b (Some e.1) (named name es)) is
