use Rattle.std.proofs.Common.{◌≡◌, List, ℕ, take}
use Rattle.folder.specs.Folders.{IsSameFolder}
use Rattle.measured.specs.Closed.{is_found}
use Rattle.measured.specs.Copied.{AreCopiesFor}
use Rattle.measured.specs.Known.{IsKnown}
use Rattle.measured.proofs.copying.copy_all.Given as goal

-- the files of the searches so far are known, and there is a copy for each that has its target
abbrev pub invariant-loop-search : goal.invariant-loop-search
invariant-loop-search g l = record {
  known : (names : List (List ℕ)) → IsKnown names (g.F.Folder.gives l.initial.folder).holds (is_found l.course.trusted.root.reading.consistent l.course.searches) l.initial.known
      → IsKnown names (g.F.Folder.gives l.initial.folder).holds (is_found l.course.trusted.root.reading.consistent l.course.searches) l.known;
  copies : AreCopiesFor g.D.Temporary.Temporary.wrote l.copies.items (take l.search-index l.course.searches);
  same : IsSameFolder (g.F.Folder.gives l.initial.folder) (g.F.Folder.gives l.folder);
  same_site : g.D.Destination.site l.to ≡ g.D.Destination.site l.initial.to;
}
