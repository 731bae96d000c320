use Rattle.std.proofs.Common.{◌≤◌, subst, sym, rules}
use Rattle.hands.proofs.PartLemmas.{end_within}
use Rattle.hands.proofs.dealing.end_of.Goals as goal

pub returns-clause-end : goal.returns-clause-end
returns-clause-end = search rules

pub returns-clause-most : goal.returns-clause-most
returns-clause-most c = subst (λ n. n ≤ c.args.count) (sym (returns-clause-end c)) (end_within c.args.count c.args.workers c.args.k c.requires.below)
