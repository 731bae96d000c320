use Rattle.std.proofs.Common.{◌∷◌, [], Some, IfErr, IfOk, ap, inl, inr, subst}
use Rattle.update.specs.Copies.{IsCauseToVerifyInto, IsVerifiedInto}
use Rattle.command.specs.Done.{site_at, system_of}
use Rattle.command.proofs.Doing.{cause_of, held_of, mirror_of, out_of_memory, verified_into_of}
use Rattle.command.proofs.into.verify_into_in.Goals as goal

pub returns-in-Err-clause-cause : goal.returns-in-Err-clause-cause
returns-in-Err-clause-cause g c = out_of_memory c.from.result (λ w v f. IsCauseToVerifyInto c.args.terms.now (site_at c.args.into.now) w v f) (g.W.Write.contents c.args.out) (g.W.Write.contents c.args.out) c.from.ensures (λ w v. inr (inl tt))

pub returns-clause-verified : goal.returns-clause-verified
returns-clause-verified g c =
    let h = held_of c.new.result.locked c.new.result.stored in
    let k = held_of c.verify_into-done.new.self.system.locked c.verify_into-done.new.self.system.stored in
    let folders = c.in-Ok.all.0 in
    let m = mirror_of folders.metadata folders.targets.folder in
    let r = c.verify_into-done.result in
    let old = g.W.Write.contents c.args.out in
    let new = g.W.Write.contents c.verify_into-done.new.self.out in
    verified_into_of r c.args.terms.now c.args.folders c.args.into.now h k m [] old new (ap Some c.in-Ok.ensures.metadata, ap Some c.in-Ok.ensures.targets)
    (subst (λ z. IfOk r (IsVerifiedInto c.args.terms.now (site_at z) (system_of h (m ∷ []) old) (system_of k [] new))) c.in-Ok.ensures.into c.verify_into-done.ensures.verified)

pub returns-clause-cause : goal.returns-clause-cause
returns-clause-cause g c =
    let h = held_of c.new.result.locked c.new.result.stored in
    let k = held_of c.verify_into-done.new.self.system.locked c.verify_into-done.new.self.system.stored in
    let m = mirror_of c.in-Ok.all.0.metadata c.in-Ok.all.0.targets.folder in
    let n = mirror_of c.verify_into-done.new.self.folders.metadata c.verify_into-done.new.self.folders.targets.folder in
    let r = c.verify_into-done.result in
    let old = g.W.Write.contents c.args.out in
    let new = g.W.Write.contents c.verify_into-done.new.self.out in
    cause_of r (λ w v f. IsCauseToVerifyInto c.args.terms.now (site_at c.args.into.now) w v f) h k (m ∷ []) (n ∷ []) old new
    (subst (λ z. IfErr r (IsCauseToVerifyInto c.args.terms.now (site_at z) (system_of h (m ∷ []) old) (system_of k (n ∷ []) new))) c.in-Ok.ensures.into c.verify_into-done.ensures.cause)
