use Rattle.std.proofs.Common.{◌≡◌, flat_map, take, string_bytes}
use Rattle.report.specs.Shown.{file_text}
use Rattle.report.proofs.shown.text_of.Given as goal

abbrev pub invariant-loop-file : goal.invariant-loop-file
invariant-loop-file l = string_bytes l.text ≡ flat_map file_text (take l.file-index l.files)
