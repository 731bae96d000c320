use Rattle.std.proofs.Common.{◌≡◌, ◌++◌, flat_map, map, string_bytes, take}
use Rattle.std.specs.List.{enumerate_from}
use Rattle.report.specs.Lines.{path_text}
use Rattle.report.proofs.lines.push_paths.Given as goal

abbrev pub invariant-loop-place : goal.invariant-loop-place
invariant-loop-place l =
    string_bytes l.text ≡ string_bytes l.initial.text
    ++ flat_map (path_text l.told.outcome.verdicts l.stored l.told.why.paths) (take l.place (enumerate_from 0 (map string_bytes l.wanted)))
