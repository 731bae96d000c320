use Rattle.std.proofs.Common.{rules}
use Rattle.rolechain.proofs.Regained.{IfOk-own}
use Rattle.rolechain.proofs.state.Trusted.from_text.Goals as goal

pub returns-clause-state : goal.returns-clause-state
returns-clause-state = search rules

pub returns-clause-own : goal.returns-clause-own
returns-clause-own c = IfOk-own c.args.text.now c.state_in.result (returns-clause-state c)
