use Rattle.leaves.proofs.Reading.{kept_leaf}
use Rattle.leaves.proofs.key.StoredSecretKey.sign.Goals as goal

pub returns-clause-leaf : goal.returns-clause-leaf
returns-clause-leaf c = kept_leaf c.in_ok-sign.field-0.items c.args.self.now.used c.in_ok-sign.ensures.leaf c.in_ok-sign.ensures.within.1
