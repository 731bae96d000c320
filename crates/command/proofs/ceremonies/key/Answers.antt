use Rattle.std.proofs.Common.{true}
use Rattle.system.specs.Files.{keeps}
use Rattle.command.proofs.Stepping.{making}
use Rattle.command.proofs.ceremonies.key.Goals as goal

pub returns-clause-made : goal.returns-clause-made
returns-clause-made g c =
    let d = c.make_key_file-done in
    making d.result c.args.from.now c.args.to.now (keeps (λ _ _. true) c.new-system.result.stored) (keeps (λ _ _. true) d.new.system.stored)
    (g.W.Write.contents c.args.out) (g.W.Write.contents d.new.out) d.ensures.made d.ensures.refused d.ensures.kept
