use Rattle.std.specs.Str.{IsUtf8}
use Rattle.embed.proofs.Files.{not_all}
use Rattle.embed.proofs.job.files_of.Goals as goal

pub returns-in_err-add_file-clause-errors : goal.returns-in_err-add_file-clause-errors
returns-in_err-add_file-clause-errors c =
    not_all (λ f. IsUtf8 f.name.now) c.args.files.now c.loop-file.file-index _ c.in_err-add_file.field-0.0 c.from_residual.result
    c.loop-file-test.true c.in_err-add_file.ensures.errors c.from_residual.ensures.1
