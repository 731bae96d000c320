use Rattle.std.proofs.Common.{All, sym, subst}
use Rattle.measured.specs.Known.{AreDone}
use Rattle.measured.specs.declared.early.Share.{Share}
use Rattle.measured.proofs.Knowing.{first_share, rest_share}
use Rattle.measured.proofs.early.keep_shares.Goals as goal

pub loop-share-init : goal.loop-share-init
loop-share-init c = let h = c.into_iter-share-iterator.ensures.into_iter_gives in record { can = tt; ends = tt; known = λ names holds found all known. known; left = λ holds all. subst (All (λ (s : Share). AreDone holds s.done.items)) (sym h.0) all }

pub loop-share-preserved : goal.loop-share-preserved
loop-share-preserved c =
    let was = c.loop-share.invariant in
    let step = c.in-Some.ensures.steps in
    record {
      can = tt;
      ends = tt;
      known = λ names holds found all known.
          c.in_ok-keep_all.ensures.known names holds found (first_share holds _ _ c.in-Some.share step.0 (was.left holds all)) (was.known names holds found all known);
      left = λ holds all. rest_share holds _ _ c.in-Some.share step.0 (was.left holds all);
    }

pub returns-in_err-keep_all : goal.returns-in_err-keep_all
returns-in_err-keep_all c =
    let was = c.loop-share.invariant in
    let step = c.in-Some.ensures.steps in
    record {
      known = λ names holds found all known.
          c.keep_all.ensures.known names holds found (first_share holds _ _ c.in-Some.share step.0 (was.left holds all)) (was.known names holds found all known);
    }
