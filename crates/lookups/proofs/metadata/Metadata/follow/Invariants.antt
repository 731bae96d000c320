use Rattle.std.proofs.Common.{◌≡◌}
use Rattle.folder.specs.Folders.{IsSameFolder}
use Rattle.lookups.specs.Lookups.{Grows, IsPart}
use Rattle.lookups.proofs.metadata.Metadata.follow.Given as goal

abbrev pub invariant-loop-left : goal.invariant-loop-left
invariant-loop-left g l = record {
  part : IsPart (g.F.Folder.gives l.initial.folder) l.self;
  grows : Grows l.initial.self l.self;
  state : l.keeper ≡ l.initial.keeper;
  same : IsSameFolder (g.F.Folder.gives l.initial.folder) (g.F.Folder.gives l.folder);
}

-- what may still be examined again
abbrev pub decreases-loop-left : goal.decreases-loop-left
decreases-loop-left g l = l.left
