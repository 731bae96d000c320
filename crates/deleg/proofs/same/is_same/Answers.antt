use Rattle.std.proofs.Common.{rules}
use Rattle.deleg.proofs.same.is_same.Goals as goal

pub returns-then-are_same_role_keys : goal.returns-then-are_same_role_keys
returns-then-are_same_role_keys = search rules
