use Rattle.std.proofs.Common.{◌≡◌, ℕ, List, take, bytes_eq}
use Rattle.std.specs.List.{list_any}
use Rattle.keys.specs.Keys.{has_id}
use Rattle.keys.proofs.role_keys.RoleKeys.id_set.Given as goal

abbrev pub invariant-loop-id : goal.invariant-loop-id
invariant-loop-id l = (q : List ℕ) → has_id l.ids q ≡ list_any (bytes_eq q) (take l.id-index l.id-items)
