use Rattle.std.proofs.Common.{◌≡◌, IfOk, subst}
use Rattle.keys.specs.Keys as spec
use Rattle.keys.proofs.ring.KeyRing.read.Goals as goal

pub returns : goal.returns
returns c = record {
  read = subst (λ d. IfOk c.if_formed.result (λ o. o ≡ spec.ring d)) c.in_ok-tree.ensures.value (c.if_formed.ensures.value _ c.from_json.ensures.read);
}
