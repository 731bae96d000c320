use Rattle.std.proofs.Common.{rules}
use Rattle.memory.proofs.cache.Cache.learn.Goals as goal

pub learn-requires : goal.learn-requires
learn-requires = search rules
