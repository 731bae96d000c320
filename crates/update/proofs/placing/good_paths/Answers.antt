use Rattle.std.proofs.Common.{Bor, List, ℕ, subst}
use Rattle.std.proofs.lemmas.List.Sorted.{IsPermutation-map}
use Rattle.std.specs.List.Sorted.{IsPermutation}
use Rattle.update.specs.Stored.{lent_texts}
use Rattle.update.proofs.placing.good_paths.Goals as goal

pub returns-clause-paths : goal.returns-clause-paths
returns-clause-paths c =
    subst (λ l. IsPermutation l (lent_texts c.sort_unstable.new.self.items)) c.in_ok-paths.ensures.paths
    (IsPermutation-map (λ (t : Bor (List ℕ)). t.now) c.in_ok-paths.paths.items c.sort_unstable.new.self.items c.sort_unstable.ensures.permutation)
