use Rattle.std.proofs.Common.{arith}
use Rattle.board.proofs.Keeps.{stops}
use Rattle.board.proofs.Calls.{same_table}
use Rattle.board.proofs.board.Board.stop.Goals as goal

pub store-requires : goal.store-requires
store-requires c = let size = c.self.invariant.0 in (same_table _ _ _ _ c.self.view_is c.seat.view_is c.requires.seat, omega arith, stops _ _ _ _)
