use Rattle.std.proofs.Common.{arith, rules}
use Rattle.board.proofs.Keeps.{splits}
use Rattle.board.proofs.Calls.{same_table, kept_new}
use Rattle.board.proofs.board.Board.split.Goals as goal

pub split_seat-other-requires : goal.split_seat-other-requires
split_seat-other-requires c = let size = c.self.invariant.0 in (same_table _ _ _ _ c.self.view_is c.seat.view_is c.requires.free.seat, omega arith, splits c.self.inside.table.shared.key.list 0 c.seat.inside.inner.id c.seat.inside.inner.me)

pub invariant_of-second : goal.invariant_of-second
invariant_of-second c = kept_new _ _ c.split_seat-other.ensures.4

pub returns-clause-first : goal.returns-clause-first
returns-clause-first = search rules

pub returns-clause-fresh : goal.returns-clause-fresh
returns-clause-fresh = search rules
