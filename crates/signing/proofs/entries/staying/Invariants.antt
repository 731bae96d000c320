use Rattle.std.proofs.Common.{◌≡◌, take, map}
use Rattle.signing.specs.Attached.{staying}
use Rattle.signing.proofs.entries.staying.Given as goal

abbrev pub invariant-loop-entry : goal.invariant-loop-entry
invariant-loop-entry l = map (λ e. e.now) l.staying.items ≡ staying l.key l.message (take l.entry-index l.entries)
