use Rattle.std.specs.Str.{IsUtf8}
use Rattle.embed.proofs.Files.{not_all}
use Rattle.embed.proofs.job.paths_of.Goals as goal

pub returns-in_err-text_of-clause-errors : goal.returns-in_err-text_of-clause-errors
returns-in_err-text_of-clause-errors c =
    not_all (λ p. IsUtf8 p.bytes.now) c.args.paths.now c.loop-path.path-index _ c.in_err-text_of.field-0.0 c.from_residual.result
    c.loop-path-test.true c.in_err-text_of.ensures.errors c.from_residual.ensures.1
