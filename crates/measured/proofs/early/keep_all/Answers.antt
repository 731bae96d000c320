use Rattle.std.proofs.Common.{sym, subst}
use Rattle.measured.specs.Known.{AreDone}
use Rattle.measured.proofs.Knowing.{first_done, rest_done}
use Rattle.measured.proofs.early.keep_all.Goals as goal

pub loop-one-init : goal.loop-one-init
loop-one-init c = let h = c.into_iter-one-iterator.ensures.into_iter_gives in record { can = tt; ends = tt; known = λ names holds found all known. known; left = λ holds all. subst (AreDone holds) (sym h.0) all }

pub loop-one-preserved : goal.loop-one-preserved
loop-one-preserved c =
    let was = c.loop-one.invariant in
    let step = c.in-Some.ensures.steps in
    record {
      can = tt;
      ends = tt;
      known = λ names holds found all known.
          c.in_ok-keep.ensures.known names holds found (first_done holds _ _ c.in-Some.one step.0 (was.left holds all)) (was.known names holds found all known);
      left = λ holds all. rest_done holds _ _ c.in-Some.one step.0 (was.left holds all);
    }

pub returns-in_err-keep : goal.returns-in_err-keep
returns-in_err-keep c =
    let was = c.loop-one.invariant in
    let step = c.in-Some.ensures.steps in
    record {
      known = λ names holds found all known.
          c.keep.ensures.known names holds found (first_done holds _ _ c.in-Some.one step.0 (was.left holds all)) (was.known names holds found all known);
    }
