use Rattle.std.proofs.Common.{arith}
use Rattle.meta.proofs.Hashed.{in_folder}
use Rattle.meta.proofs.names.digest_name.Goals as goal

pub returns-in-Some : goal.returns-in-Some
returns-in-Some = grind (arith, in_folder)
