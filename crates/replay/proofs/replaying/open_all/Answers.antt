use Rattle.std.proofs.Common.{[], refl, rules, subst, sym, take}
use Rattle.std.specs.List.{AllZip}
use Rattle.update.specs.Opened.{IsOpened}
use Rattle.replay.proofs.Causing.{same_read}
use Rattle.update.proofs.Ending.{carried}
use Rattle.replay.proofs.Places.{open_more, same_all, same_length, same_then}
use Rattle.replay.proofs.replaying.open_all.Goals as goal

pub loop-k-init : goal.loop-k-init
loop-k-init g c = record {
  opened = subst (AllZip IsOpened []) (sym c.new-all.ensures.items) tt;
  same = same_all _;
  len = refl;
}

pub returns-in_err-open_at-clause-same : goal.returns-in_err-open_at-clause-same
returns-in_err-open_at-clause-same g c = same_then _ _ _ c.loop-k.invariant.same c.in_err-open_at.ensures.same

pub returns-in_err-open_at-clause-cause : goal.returns-in_err-open_at-clause-cause
returns-in_err-open_at-clause-cause g c =
    carried _ c.from_residual.result c.in_err-open_at.field-0.0 (search rules)
    (same_read _ _ _ c.in_err-open_at.field-0.0 c.loop-k.invariant.same c.in_err-open_at.ensures.cause)

pub returns-in_err-push-clause-same : goal.returns-in_err-push-clause-same
returns-in_err-push-clause-same g c = same_then _ _ _ c.loop-k.invariant.same c.in_ok-open_at.ensures.same

pub loop-k-preserved : goal.loop-k-preserved
loop-k-preserved g c =
    let same = same_then _ _ _ c.loop-k.invariant.same c.in_ok-open_at.ensures.same in record {
      opened = subst (AllZip IsOpened (take _ _)) (sym c.in_ok-push.ensures.items)
          (open_more _ _ c.loop-k.folders.items c.loop-k.k c.loop-k.all.items c.in_ok-open_at.field-0 c.loop-k.invariant.same (search rules) c.in_ok-open_at.ensures.opened c.loop-k.invariant.opened);
      same = same;
      len = same_length _ c.args.folders.now.items c.open_at.new.folders.items same;
    }
