use Rattle.std.proofs.Common.{is_ok, string_bytes}
use Rattle.folder.specs.Measures.{IsMeasureOf}
use Rattle.folder.specs.declared.job.Done.{Done}
use Rattle.folder.proofs.Laning.{pushed}
use Rattle.folder.proofs.files.add.Goals as goal

pub returns : goal.returns
returns c = λ holds good all.
    pushed (λ (d : Done). IsMeasureOf d.need (holds (string_bytes d.name)) d.measure) (is_ok c.push.result) c.args.all.now.items _ c.args.done c.push.ensures.items good all
