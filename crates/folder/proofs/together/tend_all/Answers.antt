use Rattle.std.proofs.Common.{◌<◌, ◌*◌, arith}
use Rattle.folder.proofs.together.tend_all.Goals as goal

pub begin_next-requires : goal.begin_next-requires
begin_next-requires g c =
    let row : 8 * (g.row.N * 4) < 9223372036854775808 = omega (arith, c.requires.most) in
    let lane : g.row.N * 4 < 9223372036854775808 = omega (arith, c.requires.most) in
    (row, (lane, (c.requires.most, (c.lanes-test.true, (c.lanes.invariant.row, c.go_on.ensures.lanes (g.O.Opener.content c.args.opener.now) c.lanes.invariant.lanes)))))

pub lanes-preserved : goal.lanes-preserved
lanes-preserved g c =
    let was = c.lanes.invariant in
    record {
      row = c.begin_next.ensures.row;
      lanes = c.begin_next.ensures.lanes;
      done = λ all. c.begin_next.ensures.done (c.go_on.ensures.done (g.O.Opener.content c.args.opener.now) was.lanes (was.done all));
    }
