use Rattle.std.proofs.Common.{rules}
use Rattle.keys.proofs.role_keys.RoleKeysFromJson.from_json.Goals as goal

pub returns : goal.returns
returns = search rules
