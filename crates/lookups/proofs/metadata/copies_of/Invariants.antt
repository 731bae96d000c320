use Rattle.std.proofs.Common.{◌≡◌, map, string_bytes, take}
use Rattle.lookups.proofs.metadata.copies_of.Given as goal

abbrev pub invariant-loop-name : goal.invariant-loop-name
invariant-loop-name l = map string_bytes l.all.items ≡ map string_bytes (take l.name-index l.names)
