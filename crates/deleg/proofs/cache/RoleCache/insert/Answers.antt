use Rattle.std.proofs.Common.{List, ap}
use Rattle.deleg.specs.Search.{Edge}
use Rattle.deleg.specs.Cache.{IsOutcomeOf}
use Rattle.deleg.proofs.Caching.{pushed}
use Rattle.deleg.proofs.cache.RoleCache.insert.Goals as goal

pub returns : goal.returns
returns c = λ x all one.
    pushed (λ k. IsOutcomeOf x k.by k.outcome) c.args.self.now.roles.items c.push.new.self.items _ (record { by = c.args.by.now; outcome = c.args.outcome }) c.in_ok-push.ensures.items (ap (λ (by : List Edge). record { by = by; outcome = c.args.outcome }) c.in_ok-by.ensures) all one
