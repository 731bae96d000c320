use Rattle.std.proofs.Common.{rules}
use Rattle.keys.proofs.direct.is_signed_by.Goals as goal

pub returns-in-Err : goal.returns-in-Err
returns-in-Err = search rules
