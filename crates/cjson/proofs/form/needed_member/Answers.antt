use Rattle.std.proofs.Common.{rules}
use Rattle.cjson.proofs.form.needed_member.Goals as goal

pub returns : goal.returns
returns = search rules
