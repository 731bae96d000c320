use Rattle.std.proofs.Common.{◌≡◌, length, map, take}
use Rattle.std.specs.List.{AllZip}
use Rattle.update.specs.Opened.{IsOpened}
use Rattle.update.specs.Same.{IsSame}
use Rattle.update.specs.World.{Mirror}
use Rattle.replay.proofs.replaying.open_all.Given as goal

abbrev pub invariant-loop-k : goal.invariant-loop-k
invariant-loop-k g l =
    let mirrors = map {B = Mirror} (λ f. record {
      metadata = g.M.Folder.gives f.metadata;
      targets = g.T.Folder.gives f.targets;
    }) in
    record {
      opened : AllZip IsOpened (take l.k (mirrors l.fn.folders.items)) l.all.items;
      same : AllZip IsSame (mirrors l.fn.folders.items) (mirrors l.folders.items);
      len : length l.folders.items ≡ length l.fn.folders.items;
    }
