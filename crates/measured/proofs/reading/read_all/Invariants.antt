use Rattle.std.proofs.Common.{◌<◌, ℕ, List, Option, slice_index_or}
use Rattle.deleg.specs.declared.accepted.Search.{Search}
use Rattle.folder.specs.Folders.{IsSameFolder}
use Rattle.measured.specs.Closed.{is_found}
use Rattle.measured.specs.Known.{IsCovered, IsKnown}
use Rattle.measured.proofs.reading.read_all.Given as goal

-- the files of the searches so far are known
abbrev pub invariant-loop-search : goal.invariant-loop-search
invariant-loop-search g l = record {
  known : (names : List (List ℕ)) → IsKnown names (g.F.Folder.gives l.initial.folder).holds (is_found l.consistent l.searches) l.initial.known
      → IsKnown names (g.F.Folder.gives l.initial.folder).holds (is_found l.consistent l.searches) l.known;
  covered : (k : ℕ) (d : Option Search) → k < l.search-index → IsCovered l.known l.consistent (slice_index_or l.searches k d);
  same : IsSameFolder (g.F.Folder.gives l.initial.folder) (g.F.Folder.gives l.folder);
}
