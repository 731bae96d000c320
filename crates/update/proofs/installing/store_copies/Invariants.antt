use Rattle.std.proofs.Common.{◌≡◌, map, string_bytes}
use Rattle.system.specs.Locks.{StaysLocked}
use Rattle.update.specs.Stored.{placing_of}
use Rattle.update.proofs.Copied.{IsDone}
use Rattle.update.proofs.installing.store_copies.Given as goal

abbrev pub invariant-loop-i : goal.invariant-loop-i
invariant-loop-i g l =
    record {
      done : IsDone (placing_of g.D.Destination.site l.places (g.S.System.obstacles l.initial.system)) g.D.Temporary.Temporary.wrote
          (map string_bytes l.wanted) l.verdicts l.copies l.i l.flags.items l.decided (g.S.System.keeps l.initial.system) (g.S.System.keeps l.system);
      obstacles : g.S.System.obstacles l.system ≡ g.S.System.obstacles l.initial.system;
      locked : StaysLocked (g.S.System.locks l.initial.system) (g.S.System.locks l.system);
    }
