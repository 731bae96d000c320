use Rattle.folder.proofs.Passing.{all_passed, more_passed, none_passed}
use Rattle.folder.proofs.sink.pass_by.Goals as goal

pub loop-init : goal.loop-init
loop-init g c = none_passed _ _

pub loop-preserved : goal.loop-preserved
loop-preserved g c = more_passed _ _ _ _ _ _ c.loop.invariant c.in_ok-pass_one.ensures.passed

pub returns-then-branch : goal.returns-then-branch
returns-then-branch g c = record {
  passed = all_passed c.args.need _ _ _ _ c.end.result (more_passed _ _ _ _ _ _ c.loop.invariant c.in_ok-pass_one.ensures.passed)
      c.new-measuring.ensures.need c.new-measuring.ensures.nothing c.end.ensures.measure;
}
