use Rattle.embed.proofs.Targets.{one_more}
use Rattle.embed.proofs.held.add.Goals as goal

pub returns-clause-added : goal.returns-clause-added
returns-clause-added c =
    one_more c.args.all.now c.insert.new.self c.in_ok-name.name c.args.held c.args.name.now
    c.in_ok-insert.ensures.updates c.in_ok-name.ensures.text
