use Rattle.std.proofs.Common.{rules}
use Rattle.examine.proofs.target.target_file.Goals as goal

pub returns-in-Some-file_of : goal.returns-in-Some-file_of
returns-in-Some-file_of = search rules
