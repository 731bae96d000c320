use Rattle.std.proofs.Common.{◌≡◌, ◌-◌, drop}
use Rattle.deleg.specs.Glue.{from_first_for}
use Rattle.deleg.specs.Search.{edges_by}
use Rattle.deleg.proofs.frame.first_for.Given as goal

abbrev pub invariant-loop-place : goal.invariant-loop-place
invariant-loop-place l = let all = edges_by l.bin l.targets in
    from_first_for l.path (drop l.place all) ≡ from_first_for l.path (drop l.from all)

abbrev pub decreases-loop-place : goal.decreases-loop-place
decreases-loop-place l = l.count - l.place
