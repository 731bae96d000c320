use Rattle.std.proofs.Common.{take}
use Rattle.keys.specs.Keys.{IsById}
use Rattle.keys.proofs.entries.Entries.of.Given as goal

abbrev pub invariant-loop-place : goal.invariant-loop-place
invariant-loop-place l = IsById l.by_id (take l.place l.entry-items)
