use Rattle.std.proofs.Common.{All, string_bytes, vec_len}
use Rattle.folder.specs.Measures.{IsMeasureOf}
use Rattle.folder.specs.declared.job.Done.{Done}
use Rattle.folder.proofs.files.Folder.measure_many.Given as goal

abbrev pub invariant-jobs : goal.invariant-jobs
invariant-jobs g l = All (λ (d : Done). IsMeasureOf d.need ((g.Self.Folder.gives l.self).holds (string_bytes d.name)) d.measure) l.done.items

abbrev pub decreases-jobs : goal.decreases-jobs
decreases-jobs g l = vec_len l.jobs
