use Rattle.std.proofs.Common.{◌≡◌, ◌++◌, flat_map, take, string_bytes}
use Rattle.report.specs.Lines.{role_text}
use Rattle.report.proofs.lines.push_roles.Given as goal

abbrev pub invariant-loop-accepted : goal.invariant-loop-accepted
invariant-loop-accepted l =
    string_bytes l.text ≡ string_bytes l.initial.text ++ flat_map role_text (take l.accepted-index l.roles)
