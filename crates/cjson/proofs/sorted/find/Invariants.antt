use Rattle.std.proofs.Common.{◌≡◌, drop}
use Rattle.cjson.specs.Names.{named}
use Rattle.cjson.proofs.sorted.find.Given as goal

abbrev pub invariant-loop-entry : goal.invariant-loop-entry
invariant-loop-entry g l = named l.name (drop l.entry-index l.entries) ≡ named l.name l.entries
