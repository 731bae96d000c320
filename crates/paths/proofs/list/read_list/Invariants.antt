use Rattle.std.proofs.Common.{◌≡◌, ◌++◌, length, map, string_bytes, true}
use Rattle.std.specs.List.{list_all}
use Rattle.paths.specs.Lists.{is_path, parts}
use Rattle.paths.proofs.list.read_list.Given as goal

-- the parts so far are paths, and those of what is left come behind them
abbrev pub invariant-loop-path : goal.invariant-loop-path
invariant-loop-path l =
    (list_all is_path (map string_bytes l.paths.items) ≡ true)
    × (parts l.mark l.bytes ≡ map string_bytes l.paths.items ++ parts l.mark l.left)

abbrev pub decreases-loop-path : goal.decreases-loop-path
decreases-loop-path l = length l.left
