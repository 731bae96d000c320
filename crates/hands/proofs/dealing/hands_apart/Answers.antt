use Rattle.std.proofs.Common.{arith}
use Rattle.std.proofs.lemmas.List.Elements.{All-push}
use Rattle.hands.specs.Sources.{Untaken}
use Rattle.hands.proofs.Sharing.{bare, apart_more, none_yet}
use Rattle.hands.proofs.dealing.hands_apart.Goals as goal

pub loop-k-preserved : goal.loop-k-preserved
loop-k-preserved c = record {
  from = c.end_of-end.ensures.end;
  shares =
      let new = bare _ _ _ _ _ c.in_ok-apart.field-0 c.loop-k.invariant.from c.end_of-end.ensures.end c.in_ok-apart.ensures.share in
      let more = apart_more _ _ _ _ _ c.loop-k.invariant.shares new in
      rw c.in_ok-push.ensures.items more;
  untaken = rw c.in_ok-push.ensures.items (All-push Untaken c.loop-k.hands.items c.in_ok-apart.field-0 c.loop-k.invariant.untaken c.in_ok-apart.ensures.untaken);
}

pub returns-clause-shares : goal.returns-clause-shares
returns-clause-shares c = none_yet _ _ _ _ (grind arith) c.loop-k.invariant.shares
