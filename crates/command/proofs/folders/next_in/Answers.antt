use Rattle.std.proofs.Common.{◌∷◌, [], inl}
use Rattle.update.specs.Fetching.{IsCauseOfNext}
use Rattle.command.proofs.Doing.{cause_of, held_of, mirror_of, out_of_memory}
use Rattle.command.proofs.folders.next_in.Goals as goal

pub returns-in-Err-clause-cause : goal.returns-in-Err-clause-cause
returns-in-Err-clause-cause g c = out_of_memory c.from.result (λ w v f. IsCauseOfNext c.args.wants.now w v f) (g.W.Write.contents c.args.out) (g.W.Write.contents c.args.out) c.from.ensures (λ w v. inl tt)

pub returns-clause-cause : goal.returns-clause-cause
returns-clause-cause g c =
    let h = held_of c.new.result.locked c.new.result.stored in
    let k = held_of c.next-done.new.self.system.locked c.next-done.new.self.system.stored in
    let m = mirror_of c.in-Ok.folders.metadata c.in-Ok.folders.targets.folder in
    let n = mirror_of c.next-done.new.self.folders.metadata c.next-done.new.self.folders.targets.folder in
    cause_of c.next-done.result (λ w v f. IsCauseOfNext c.args.wants.now w v f) h k (m ∷ []) (n ∷ []) (g.W.Write.contents c.args.out) (g.W.Write.contents c.next-done.new.self.out) c.next-done.ensures.cause
