use Rattle.std.proofs.Common.{◌≡◌, ◌<◌, ℕ, false, get_or}
use Rattle.folder.specs.Folders.{IsSameFolder}
use Rattle.lookups.specs.Lookups.{Grows, IsDone, IsPart}
use Rattle.needs.specs.declared.need.Need.{Need}
use Rattle.lookups.proofs.metadata.Metadata.read_needed.Given as goal

-- none so far was due if none was found
abbrev pub invariant-loop-need : goal.invariant-loop-need
invariant-loop-need g l = record {
  part : IsPart (g.F.Folder.gives l.initial.folder) l.self;
  grows : Grows l.initial.self l.self;
  none : l.found ≡ false → l.self ≡ l.initial.self;
  done : l.found ≡ false → (k : ℕ) (d : Need) → k < l.need-index → IsDone l.initial.self (get_or l.all k d).name;
  same : IsSameFolder (g.F.Folder.gives l.initial.folder) (g.F.Folder.gives l.folder);
}
