use Rattle.std.proofs.Common.{ap, sym, ◌∙◌}
use Rattle.std.specs.FinSet as set
use Rattle.keys.proofs.Sets.{values}
use Rattle.keys.proofs.signers.Signers.new.Goals as goal

pub invariant_of-result : goal.invariant_of-result
invariant_of-result c = ap (λ ks. set.len (values ks)) c.new.ensures.items ∙ set.len-empty _ ∙ sym c.new.ensures.len
