use Rattle.std.proofs.Common.{◌≡◌, ◌++◌, flat_map, take, string_bytes}
use Rattle.whys.specs.Whys.{fall_text}
use Rattle.whys.proofs.lines.push_names.Given as goal

abbrev pub invariant-loop-fall : goal.invariant-loop-fall
invariant-loop-fall l = string_bytes l.text ≡ string_bytes l.initial.text ++ flat_map fall_text (take l.fall-index l.falls)
