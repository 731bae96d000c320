use Rattle.std.proofs.Common.{◌++◌}
use Rattle.lanes.proofs.Written.{all_eight}
use Rattle.lanes.proofs.arrays.sixteen.Goals as goal

pub returns : goal.returns
returns g c =
    let first = all_eight c.args.first c.well_formed.0.1.0.1
    c.index-first-0.result c.index-first-1.result c.index-first-2.result c.index-first-3.result
    c.index-first-4.result c.index-first-5.result c.index-first-6.result c.index-first-7.result in
    let last = all_eight c.args.last c.well_formed.1.0.1.0.1
    c.index-last-0.result c.index-last-1.result c.index-last-2.result c.index-last-3.result
    c.index-last-4.result c.index-last-5.result c.index-last-6.result c.index-last-7.result in
    λ j. first j ++ last j
