use Rattle.std.proofs.Common.{true}
use Rattle.system.specs.Files.{keeps}
use Rattle.command.proofs.Stepping.{attaching}
use Rattle.command.proofs.ceremonies.attach.Goals as goal

pub returns-clause-attached : goal.returns-clause-attached
returns-clause-attached g c =
    let d = c.attach_file-done in
    attaching d.result c.args.paths.now (keeps (λ _ _. true) c.new-system.result.stored) (keeps (λ _ _. true) d.new.system.stored)
    (g.W.Write.contents c.args.out) (g.W.Write.contents d.new.out) d.ensures.attached d.ensures.refused d.ensures.kept
