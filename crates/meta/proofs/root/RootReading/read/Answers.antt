use Rattle.std.proofs.Common.{rules}
use Rattle.meta.proofs.root.RootReading.read.Goals as goal

pub returns-in_err-read_header : goal.returns-in_err-read_header
returns-in_err-read_header = search rules

pub returns-in_err-role_of-4 : goal.returns-in_err-role_of-4
returns-in_err-role_of-4 = search rules

pub returns-in_err-flag : goal.returns-in_err-flag
returns-in_err-flag = search rules

pub returns : goal.returns
returns = search rules
