use Rattle.std.proofs.Common.{◌≡◌, flat_map, take, string_bytes}
use Rattle.report.specs.Fetching.{line_of}
use Rattle.report.proofs.fetching.text_of.Given as goal

abbrev pub invariant-loop-need : goal.invariant-loop-need
invariant-loop-need l = string_bytes l.text ≡ flat_map (line_of l.only) (take l.need-index l.needs)
