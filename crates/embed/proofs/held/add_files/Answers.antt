use Rattle.std.specs.Str.{IsUtf8}
use Rattle.embed.proofs.Files.{not_all}
use Rattle.embed.proofs.held.add_files.Goals as goal

pub returns-in_err-add-clause-errors : goal.returns-in_err-add-clause-errors
returns-in_err-add-clause-errors c =
    not_all (λ f. IsUtf8 f.name.now) c.args.files.now c.loop-at.at _ c.in_err-add.field-0.0 c.from_residual.result
    c.loop-at-test.true c.in_err-add.ensures.errors c.from_residual.ensures.1
