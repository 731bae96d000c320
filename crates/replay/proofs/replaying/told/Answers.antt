use Rattle.replay.specs.Cycles.{first_of, from_state, mirror_of}
use Rattle.replay.proofs.Cycling.{told_on}
use Rattle.replay.proofs.replaying.told.Goals as goal

pub returns-clause-told : goal.returns-clause-told
returns-clause-told g c =
    let mirror = mirror_of (g.M.Folder.gives c.args.here.now.metadata) (g.T.Folder.gives c.args.here.now.targets) in
    told_on c.args.begun.now.start.now.detail mirror c.course.new.metadata (from_state (first_of c.args.begun.now.start.now c.args.begun.now.wanted.now) c.args.keeper.now)
    c.in_ok-course.course _ c.in_ok-known.known c.in_ok-told.told c.in_ok-course.ensures.part c.in_ok-course.ensures.settled c.in_ok-known.ensures.measured
    c.in_ok-stop.ensures.lines c.in_ok-told.ensures.told
