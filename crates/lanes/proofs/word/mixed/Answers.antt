use Rattle.sha2.specs.Sha256.{add32}
use Rattle.lanes.proofs.At.{at_own, at_zip}
use Rattle.lanes.proofs.word.mixed.Goals as goal

pub returns : goal.returns
returns g c = λ i.
    let h = at_own i c.args.h c.fits-h.0 in
    (at_zip add32 (at_zip add32 h (c.big_sigma1.ensures i)) (c.ch.ensures i))
