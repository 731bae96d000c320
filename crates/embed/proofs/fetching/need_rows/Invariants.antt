use Rattle.std.proofs.Common.{◌≡◌, ◌++◌, drop, length}
use Rattle.embed.specs.Rows.{need_rows, need_names}
use Rattle.embed.proofs.fetching.need_rows.Given as goal

-- the rows and the names so far, and then those that are left
abbrev pub invariant-loop-need : goal.invariant-loop-need
invariant-loop-need l = record {
  rows : l.rows.items ++ need_rows (length l.names.items) (drop l.need-index l.all) ≡ need_rows (length l.initial.names.items) l.all;
  names : l.names.items ++ need_names (drop l.need-index l.all) ≡ l.initial.names.items ++ need_names l.all;
}
