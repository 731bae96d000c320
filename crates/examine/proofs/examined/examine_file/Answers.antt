use Rattle.std.proofs.Common.{rules}
use Rattle.examine.proofs.examined.examine_file.Goals as goal

pub returns-in_err-part-in-Timestamp : goal.returns-in_err-part-in-Timestamp
returns-in_err-part-in-Timestamp = search rules

pub returns-in_ok-part-in-Timestamp : goal.returns-in_ok-part-in-Timestamp
returns-in_ok-part-in-Timestamp = search rules
