use Rattle.std.proofs.Common.{◌≡◌, map, string_bytes, take}
use Rattle.measured.specs.Closed.{IsKnownOf}
use Rattle.update.specs.Runs.{Seen, path_text}
use Rattle.update.proofs.refused.texts_of.Given as goal

-- the texts of the searches so far
abbrev pub invariant-loop-search : goal.invariant-loop-search
invariant-loop-search l = (targets : Seen) → IsKnownOf targets l.known
    → map string_bytes l.texts.items ≡ map (path_text targets l.course.trusted.root.reading.consistent) (take l.search-index l.course.searches)
