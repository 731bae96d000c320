use Rattle.std.proofs.Common.{◌≡◌, ℕ, List, take, bytes_eq}
use Rattle.std.specs.List.{list_any}
use Rattle.std.specs.BTreeSet.{btree_set_len}
use Rattle.std.specs.FinSet as set
use Rattle.keys.specs.Keys.{has_id}
use Rattle.keys.proofs.Sets.{values}
use Rattle.signing.proofs.counted.id_count.Given as goal

abbrev pub invariant-loop-id : goal.invariant-loop-id
invariant-loop-id l =
    (btree_set_len l.seen ≡ set.len (values (take l.id-index l.ids)))
    × ((q : List ℕ) → has_id l.seen q ≡ list_any (bytes_eq q) (take l.id-index l.ids))
