use Rattle.std.proofs.Common.{arith}
use Rattle.paths.proofs.Naming.{in_folder, no_folder}
use Rattle.paths.proofs.names.path_of.Goals as goal

pub returns-in-Some : goal.returns-in-Some
returns-in-Some = grind (arith, in_folder)

pub returns-in-None : goal.returns-in-None
returns-in-None = grind (arith, no_folder)
