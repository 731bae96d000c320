use Rattle.std.proofs.Common.{◌≡◌}
use Rattle.std.proofs.lemmas.List.Elements.{All-pop}
use Rattle.thread_rows.proofs.boards.last_hand.Goals as goal

pub returns-clause-hand : goal.returns-clause-hand
returns-clause-hand c = (All-pop (λ h. h.count ≡ c.args.count) _ _ _ c.pop.ensures.items c.requires).1

pub returns-clause-rest : goal.returns-clause-rest
returns-clause-rest c = (All-pop (λ h. h.count ≡ c.args.count) _ _ _ c.pop.ensures.items c.requires).0
