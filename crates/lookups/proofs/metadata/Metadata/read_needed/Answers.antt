use Rattle.std.proofs.Common.{◌<◌, ◌≤◌, ◌∙◌, ℕ, arith, subst}
use Rattle.folder.proofs.Sameness.{same_trans}
use Rattle.lookups.specs.Lookups.{IsDone}
use Rattle.lookups.proofs.Reading.{done_more, grows_on, none_more, part_before, part_still}
use Rattle.lookups.proofs.metadata.Metadata.read_needed.Goals as goal

pub read-requires : goal.read-requires
read-requires g c = record { part = part_still _ _ _ c.loop-need.invariant.same c.loop-need.invariant.part }

pub loop-need-preserved : goal.loop-need-preserved
loop-need-preserved g c = record {
  part = part_before _ _ _ c.loop-need.invariant.same c.in_ok-is_read.ensures.part;
  grows = grows_on _ _ _ c.loop-need.invariant.grows c.in_ok-is_read.ensures.grows;
  none = none_more c.loop-need.found c.in_ok-is_read.is_read _ _ _ c.loop-need.invariant.none c.in_ok-is_read.ensures.none;
  done = done_more c.loop-need.found c.in_ok-is_read.is_read _ _ _ c.loop-need.invariant.none c.in_ok-is_read.ensures.none c.args.all.now c.loop-need.need-index c.need-item.result
      c.loop-need-test.true c.need-item.is c.loop-need.invariant.done (subst (IsDone c.read.new.self) c.as_str.ensures.value c.in_ok-is_read.ensures.done);
  same = same_trans _ _ _ c.loop-need.invariant.same c.in_ok-is_read.ensures.same;
}

pub returns-clause-none : goal.returns-clause-none
returns-clause-none g c none = record {
  same = c.loop-need.invariant.none none;
  done = λ k d inside. c.loop-need.invariant.done none k d (at_end inside c.loop-need-test.false);
}
  where
    at_end : {k n i : ℕ} → k < n → n ≤ i → k < i
    at_end p q = grind arith
