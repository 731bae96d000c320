use Rattle.std.proofs.Common.{[]}
use Rattle.update.specs.First.{IsCauseOfFirst}
use Rattle.command.proofs.Doing.{cause_of, first_of, held_of}
use Rattle.command.proofs.carrying.init.Goals as goal

pub returns-clause-first : goal.returns-clause-first
returns-clause-first g c =
    let h = held_of c.new.result.locked c.new.result.stored in
    let k = held_of c.init-done.new.self.system.locked c.init-done.new.self.system.stored in
    first_of c.init-done.result c.args.first.now.root.now c.args.first.now.state.now h k (g.W.Write.contents c.args.out) (g.W.Write.contents c.init-done.new.self.out)
    c.init-done.ensures.status c.init-done.ensures.trusted c.init-done.ensures.refused

pub returns-clause-cause : goal.returns-clause-cause
returns-clause-cause g c =
    let h = held_of c.new.result.locked c.new.result.stored in
    let k = held_of c.init-done.new.self.system.locked c.init-done.new.self.system.stored in
    cause_of c.init-done.result (λ w v f. IsCauseOfFirst c.args.first.now w v f) h k [] [] (g.W.Write.contents c.args.out) (g.W.Write.contents c.init-done.new.self.out) c.init-done.ensures.cause
