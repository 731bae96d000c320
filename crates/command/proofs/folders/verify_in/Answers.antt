use Rattle.std.proofs.Common.{◌∷◌, [], Some, ap, inl}
use Rattle.update.specs.Causes.{IsCause}
use Rattle.command.proofs.Doing.{cause_of, held_of, mirror_of, out_of_memory, verified_of}
use Rattle.command.proofs.folders.verify_in.Goals as goal

pub returns-in-Err-clause-cause : goal.returns-in-Err-clause-cause
returns-in-Err-clause-cause g c = out_of_memory c.from.result (λ w v f. IsCause c.args.terms.now w v f) (g.W.Write.contents c.args.out) (g.W.Write.contents c.args.out) c.from.ensures (λ w v. inl tt)

pub returns-clause-verified : goal.returns-clause-verified
returns-clause-verified g c =
    let h = held_of c.new.result.locked c.new.result.stored in
    let k = held_of c.verify-done.new.self.system.locked c.verify-done.new.self.system.stored in
    let m = mirror_of c.in-Ok.folders.metadata c.in-Ok.folders.targets.folder in
    verified_of c.verify-done.result c.args.terms.now c.args.folders h k m [] (g.W.Write.contents c.args.out) (g.W.Write.contents c.verify-done.new.self.out)
    (ap Some c.in-Ok.ensures.metadata, ap Some c.in-Ok.ensures.targets) c.verify-done.ensures.verified

pub returns-clause-cause : goal.returns-clause-cause
returns-clause-cause g c =
    let h = held_of c.new.result.locked c.new.result.stored in
    let k = held_of c.verify-done.new.self.system.locked c.verify-done.new.self.system.stored in
    let m = mirror_of c.in-Ok.folders.metadata c.in-Ok.folders.targets.folder in
    let n = mirror_of c.verify-done.new.self.folders.metadata c.verify-done.new.self.folders.targets.folder in
    cause_of c.verify-done.result (λ w v f. IsCause c.args.terms.now w v f) h k (m ∷ []) (n ∷ []) (g.W.Write.contents c.args.out) (g.W.Write.contents c.verify-done.new.self.out) c.verify-done.ensures.cause
