use Rattle.std.proofs.Common.{sym, ◌∙◌}
use Rattle.tufcheck_c.proofs.Signatures.{not_valid}
use Rattle.tufcheck_c.proofs.signature.is_valid.Goals as goal

pub returns-in-None-clause-value : goal.returns-in-None-clause-value
returns-in-None-clause-value c =
    not_valid c.args.key.now c.args.message.now c.args.signature.now
    (sym c.in-None.is ∙ c.read.ensures.value)
