use Rattle.std.proofs.Common.{◌≡◌, flat_map, map, string_bytes, take}
use Rattle.std.specs.List.{enumerate_from}
use Rattle.report.specs.Lines.{cycle_text}
use Rattle.report.proofs.cycles.text_of.Given as goal

abbrev pub invariant-loop-place : goal.invariant-loop-place
invariant-loop-place l =
    string_bytes l.text ≡ flat_map (cycle_text (map string_bytes l.wanted)) (take l.place (enumerate_from 1 l.all))
