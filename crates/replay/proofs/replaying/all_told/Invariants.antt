use Rattle.std.proofs.Common.{◌≡◌, ◌++◌, List, length, map}
use Rattle.std.specs.List.{AllZip}
use Rattle.std.specs.Vec.Iter.{into_iter_items, into_iter_len}
use Rattle.replay.specs.Cycles.{AreToldOn, first_of, last_state}
use Rattle.update.specs.Opened.{IsOpened}
use Rattle.update.specs.Same.{IsSame}
use Rattle.update.specs.World.{Mirror}
use Rattle.replay.proofs.replaying.all_told.Given as goal

abbrev pub invariant-loop-one : goal.invariant-loop-one
invariant-loop-one g l =
    let mirrors = map {B = Mirror} (λ f. record {
      metadata = g.M.Folder.gives f.metadata;
      targets = g.T.Folder.gives f.targets;
    }) in
    record {
      can : (goal.iterator-loop-one g).can_next l.one-iterator;
      ends : (goal.iterator-loop-one g).is_finite l.one-iterator;
      len : into_iter_len l.one-iterator ≡ length (into_iter_items l.one-iterator);
      done : List Mirror;
      todo : List Mirror;
      all : mirrors l.fn.folders.items ≡ done ++ todo;
      count : length l.all.items ≡ length done;
      opened : AllZip IsOpened todo (into_iter_items l.one-iterator);
      told : AreToldOn l.begun.start.now.detail done (first_of l.begun.start.now l.begun.wanted.now) l.all.items;
      state : l.keeper ≡ last_state (first_of l.begun.start.now l.begun.wanted.now) l.all.items;
      same : AllZip IsSame (mirrors l.fn.folders.items) (mirrors l.folders.items);
    }
