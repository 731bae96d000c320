use Rattle.std.proofs.Common.{ℕ, List, Bool}
use Rattle.measured.specs.Closed.{is_found}
use Rattle.measured.specs.Known.{IsKnown}
use Rattle.measured.proofs.reading.note_all.Given as goal

abbrev pub invariant-loop-search : goal.invariant-loop-search
invariant-loop-search l = (names : List (List ℕ)) (holds : List ℕ → List ℕ → Bool)
    → IsKnown names holds (is_found l.consistent l.searches) l.initial.known → IsKnown names holds (is_found l.consistent l.searches) l.known
