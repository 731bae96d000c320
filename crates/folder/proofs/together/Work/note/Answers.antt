use Rattle.std.proofs.Common.{is_ok, string_bytes}
use Rattle.folder.specs.Streams.{IsMeasureIn}
use Rattle.folder.specs.declared.job.Done.{Done}
use Rattle.folder.proofs.Laning.{pushed}
use Rattle.folder.proofs.together.Work.note.Goals as goal

pub returns-clause-done : goal.returns-clause-done
returns-clause-done c = λ content good all.
    pushed (λ (d : Done). IsMeasureIn (content (string_bytes d.name)) d.need d.measure) (is_ok c.push.result) c.args.self.now.done.items _ c.args.done c.push.ensures.items good all
