use Rattle.std.proofs.Common.{ℕ, ◌<◌, slice_index_or}
use Rattle.measured.specs.Known.{AreDone}
use Rattle.measured.specs.declared.early.Share.{Share}
use Rattle.measured.proofs.early.measure_each.Given as goal

abbrev pub invariant-shares : goal.invariant-shares
invariant-shares g l = (i : ℕ) (d : Share) → i < l.i → AreDone (g.F.Folder.gives l.folder).holds (slice_index_or l.shares i d).done.items
