use Rattle.std.proofs.Common.{◌≡◌, Some, fold, map}
use Rattle.needs.specs.Glue.{IsOnce}
use Rattle.needs.specs.Needs.{noted}
use Rattle.needs.proofs.once.note_all.Given as goal

-- the files so far
abbrev pub invariant-loop-need : goal.invariant-loop-need
invariant-loop-need l = record {
  can_next : goal.iterator-loop-need.can_next l.need-iterator;
  is_finite : goal.iterator-loop-need.is_finite l.need-iterator;
  once : IsOnce l.once;
  so_far : l.once.needs.items ≡ fold noted l.initial.once.needs.items (map Some l.yielded);
}
