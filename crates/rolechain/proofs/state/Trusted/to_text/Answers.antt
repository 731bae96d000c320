use Rattle.std.proofs.Common.{subst, rules}
use Rattle.rolechain.specs.Kept.{AreRead}
use Rattle.rolechain.proofs.Regained.{IfOk-read, IfOk-tree}
use Rattle.rolechain.proofs.state.Trusted.to_text.Goals as goal

pub returns-clause-text : goal.returns-clause-text
returns-clause-text = search rules

pub returns-clause-tree : goal.returns-clause-tree
returns-clause-tree c = IfOk-tree c.text_of.result (λ t. t.items) c.args.self.now (subst AreRead c.self.view_is c.self.invariant) (returns-clause-text c)

pub returns-clause-read : goal.returns-clause-read
returns-clause-read c = IfOk-read c.text_of.result (λ t. t.items) c.args.self.now (subst AreRead c.self.view_is c.self.invariant) (returns-clause-text c)
