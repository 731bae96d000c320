use Rattle.deleg.specs.Search.{edge_of}
use Rattle.deleg.specs.Cache.{by_edge, examination_in}
use Rattle.deleg.proofs.Caching.{of_first}
use Rattle.deleg.proofs.once.remember.Goals as goal

pub returns : goal.returns
returns c =
    let x = examination_in c.args.query.now in
    record { cache = c.insert.ensures x c.requires.cache (of_first x c.args.frame.now (edge_of c.args.edge.now) c.in-Some.outcome c.requires.first (c.in-Some.ensures (by_edge x (edge_of c.args.edge.now)) c.requires.answer)) }
