use Rattle.std.proofs.Common.{ℕ, List, Bool}
use Rattle.measured.specs.Known.{IsKnown}
use Rattle.measured.proofs.early.read_early.Given as goal

-- what is known stays known
abbrev pub invariant-parts : goal.invariant-parts
invariant-parts g l = (names : List (List ℕ)) (found : List ℕ → Bool)
    → IsKnown names (g.F.Folder.gives l.folder).holds found l.initial.known → IsKnown names (g.F.Folder.gives l.folder).holds found l.known
