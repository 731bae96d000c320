use Rattle.std.proofs.Common.{rules}
use Rattle.memory.proofs.kept.KeptJudge.valid.Goals as goal

pub returns-in-Some : goal.returns-in-Some
returns-in-Some = search rules

pub learn-requires : goal.learn-requires
learn-requires = search rules
