use Rattle.std.proofs.Common.{◌≡◌, ℕ, List, true, map, string_bytes}
use Rattle.folder.specs.Folders.{IsSameFolder}
use Rattle.folder.specs.Seen.{is_named}
use Rattle.lookups.specs.Lookups.{Grows, IsDone, IsPart}
use Rattle.lookups.proofs.metadata.Metadata.read_rest.Given as goal

-- what is due of the names so far was read
abbrev pub invariant-loop-name : goal.invariant-loop-name
invariant-loop-name g l = record {
  can_next : (goal.iterator-loop-name g).can_next l.name-iterator;
  is_finite : (goal.iterator-loop-name g).is_finite l.name-iterator;
  part : IsPart (g.F.Folder.gives l.initial.folder) l.self;
  grows : Grows l.initial.self l.self;
  done : (name : List ℕ) → is_named (map string_bytes l.yielded) name ≡ true → IsDone l.self name;
  same : IsSameFolder (g.F.Folder.gives l.initial.folder) (g.F.Folder.gives l.folder);
}
