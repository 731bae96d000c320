use Rattle.std.proofs.Common.{◌≡◌, ◌++◌, flat_map, take, string_bytes}
use Rattle.whys.specs.Signed.{finding_text}
use Rattle.whys.proofs.signed.push_findings.Given as goal

abbrev pub invariant-loop-listed : goal.invariant-loop-listed
invariant-loop-listed l = string_bytes l.text ≡ string_bytes l.initial.text ++ flat_map finding_text (take l.listed-index l.keys)
