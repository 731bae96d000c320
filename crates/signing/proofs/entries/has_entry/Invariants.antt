use Rattle.std.proofs.Common.{◌≡◌, take}
use Rattle.keys.specs.Keys.{has_entry}
use Rattle.signing.proofs.entries.has_entry.Given as goal

abbrev pub invariant-loop-entry : goal.invariant-loop-entry
invariant-loop-entry l = l.found ≡ has_entry l.message (take l.entry-index l.entries) l.key
