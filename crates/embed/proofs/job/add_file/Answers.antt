use Rattle.embed.proofs.Files.{one_more}
use Rattle.embed.proofs.job.add_file.Goals as goal

pub returns-clause-added : goal.returns-clause-added
returns-clause-added c =
    one_more c.args.all.now c.insert.new.self c.in_ok-name.name c.in_ok-bytes.bytes c.args.file.now
    c.in_ok-insert.ensures.updates c.in_ok-name.ensures.text c.in_ok-bytes.ensures.items
