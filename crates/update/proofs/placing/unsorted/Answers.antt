use Rattle.std.proofs.Common.{◌≡◌, ◌⊎◌, List, [], ◌∷◌, String, map, string_bytes, inl, inr, refl, append-nil}
use Rattle.std.proofs.lemmas.Slice.Zip.{either_empty_from_Zip}
use Rattle.cycle.specs.declared.verdict.Verdict.{Verdict}
use Rattle.update.specs.Copies.{good_paths}
use Rattle.update.specs.Stored.{lent_texts}
use Rattle.update.proofs.placing.unsorted.Goals as goal

-- no path is left where either list is at its end
none_left : {Y : Type 0} (paths : List (String Y)) (verdicts : List Verdict) → (paths ≡ []) ⊎ (verdicts ≡ [])
    → good_paths (map string_bytes paths) verdicts ≡ []
none_left [] verdicts e = refl
none_left (p ∷ paths) [] e = refl
none_left (p ∷ paths) (v ∷ verdicts) (inl e) = cc
none_left (p ∷ paths) (v ∷ verdicts) (inr e) = cc

pub returns : goal.returns
returns c =
    let spent = either_empty_from_Zip _ c.next.new.self _ c.in-None.is c.next.ensures.steps in
    let none = none_left _ _ spent in
    let whole = append-nil (lent_texts c.loop-path.paths.items) in
    record { paths = cc }
