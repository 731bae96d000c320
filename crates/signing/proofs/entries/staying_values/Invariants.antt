use Rattle.std.proofs.Common.{◌≡◌, take, map}
use Rattle.serde_json.specs.View.{view}
use Rattle.seals.specs.Sealed.{entry_object}
use Rattle.signing.proofs.entries.staying_values.Given as goal

abbrev pub invariant-loop-entry : goal.invariant-loop-entry
invariant-loop-entry l = map view l.values.items ≡ map entry_object (map (λ e. e.now) (take l.entry-index l.entry-items))
