use Rattle.std.proofs.Common.{codes, sym}
use Rattle.signing.proofs.Files.{below-object}
use Rattle.signing.proofs.metadata.signed_in.Goals as goal

pub returns-in-Some-clause-depth : goal.returns-in-Some-clause-depth
returns-in-Some-clause-depth c = below-object (codes "signed") _ _ (sym c.in-Some.ensures)
