use Rattle.std.proofs.Common.{rules}
use Rattle.folder.proofs.Sameness.{same_trans}
use Rattle.lookups.proofs.Reading.{grows_on, one_more_name, part_before, part_still}
use Rattle.lookups.proofs.metadata.Metadata.read_rest.Goals as goal

pub read-requires : goal.read-requires
read-requires g c = record { part = part_still _ _ _ c.loop-name.invariant.same c.loop-name.invariant.part }

pub loop-name-preserved : goal.loop-name-preserved
loop-name-preserved g c = record {
  can_next = tt;
  is_finite = tt;
  part = part_before _ _ _ c.loop-name.invariant.same c.in_ok-read.ensures.part;
  grows = grows_on _ _ _ c.loop-name.invariant.grows c.in_ok-read.ensures.grows;
  done = one_more_name c.loop-name.self c.read.new.self c.loop-name.yielded c.in-Some.name c.loop-name.invariant.done c.in_ok-read.ensures.grows (search rules);
  same = same_trans _ _ _ c.loop-name.invariant.same c.in_ok-read.ensures.same;
}
