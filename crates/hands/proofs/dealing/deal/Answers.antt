use Rattle.std.proofs.Common.{arith, ◌+◌, vec_len}
use Rattle.hands.proofs.Sharing.{length_of, of_len, done, even_hands, once_hands, counts_are}
use Rattle.hands.proofs.dealing.deal.Goals as goal

pub loop-k-init : goal.loop-k-init
loop-k-init c = record {
  shares = c.in_ok-hands.ensures.shares;
  untaken = c.in_ok-hands.ensures.untaken;
  len = length_of _ _ _ _ _ c.in_ok-hands.ensures.shares;
}

pub loop-k-preserved : goal.loop-k-preserved
loop-k-preserved c =
    let shares = of_len c.args.count (vec_len c.loop-k.hands) c.args.workers (c.loop-k.k + 1) 1 c.link.new.hands.items (grind arith) c.in_ok-link.ensures.shares in record {
      shares = shares;
      untaken = c.in_ok-link.ensures.untaken;
      len = length_of _ _ _ _ _ shares;
    }

pub returns-clause-shares : goal.returns-clause-shares
returns-clause-shares c = done _ _ _ _ (grind arith) c.loop-k.invariant.shares

pub returns-clause-even : goal.returns-clause-even
returns-clause-even c = even_hands _ _ _ (returns-clause-shares c)

pub returns-clause-once : goal.returns-clause-once
returns-clause-once c = once_hands _ _ _ (returns-clause-shares c) c.requires.some

pub returns-clause-counts : goal.returns-clause-counts
returns-clause-counts c = counts_are _ _ _ (returns-clause-shares c)
