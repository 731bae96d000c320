use Rattle.std.proofs.Common.{◌≡◌, List, length, slice_index_or, ap, subst, arith}
use Rattle.std.specs.List.{IsAmong}
use Rattle.deleg.specs.Search.{edge_of}
use Rattle.deleg.proofs.Caching.{found}
use Rattle.deleg.specs.declared.cache.CachedRole.{CachedRole}
use Rattle.deleg.proofs.cache.RoleCache.find_at.Goals as goal

pub returns : goal.returns
returns c = λ x all.
    let at = c.in_ok-cached.ensures.lookup in
    let among : IsAmong c.args.self.now.roles.items c.in_ok-cached.cached.now = (c.args.place, (omega (arith, ap length c.deref.ensures.value, at.3.0), subst (λ (xs : List CachedRole). c.in_ok-cached.cached.now ≡ slice_index_or xs c.args.place c.in_ok-cached.cached.now) c.deref.ensures.value at.1)) in
    found x c.args.self.now.roles.items c.in_ok-cached.cached.now (edge_of c.in_ok-by.by) (edge_of c.args.edge.now) c.copy_of.result all among c.in_ok-by.ensures (c.is_same.ensures c.if-not-is_same.false) c.copy_of.ensures
