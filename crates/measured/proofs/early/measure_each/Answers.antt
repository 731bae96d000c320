use Rattle.std.proofs.Common.{arith}
use Rattle.measured.proofs.Knowing.{one_share}
use Rattle.measured.proofs.early.measure_each.Goals as goal

pub shares-preserved : goal.shares-preserved
shares-preserved g c =
    one_share (g.F.Folder.gives c.args.folder.now).holds c.shares.shares c.shares.i c.measure_share.new.share (omega (arith, c.shares.auto.shares, c.shares-test.true)) c.measure_share.ensures c.shares.invariant
