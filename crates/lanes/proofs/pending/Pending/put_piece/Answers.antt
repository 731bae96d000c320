use Rattle.std.proofs.Common.{arith, refl}
use Rattle.lanes.proofs.Blocks.{taken_start}
use Rattle.lanes.proofs.pending.Pending.put_piece.Goals as goal

pub returns-clause-reaches : goal.returns-clause-reaches
returns-clause-reaches c = λ hash m whole after. taken_start hash m c.args.self.now.bytes.items 512 32768 refl whole (omega (arith, c.requires.size)) after
