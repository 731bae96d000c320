use Rattle.std.proofs.Common.{refl}
use Rattle.folder.proofs.Taking.{took}
use Rattle.folder.proofs.measure.Measuring.take.Goals as goal

pub returns-clause-taken : goal.returns-clause-taken
returns-clause-taken c = λ bytes has. took c.args.self.now _ bytes c.args.piece.now c.most-most.result (c.most-most.ensures.count) (refl) (refl)
    c.feed.ensures.wanted c.feed-2.ensures.wanted c.feed.ensures.taken c.feed-2.ensures.taken has
