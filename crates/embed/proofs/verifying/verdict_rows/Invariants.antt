use Rattle.std.proofs.Common.{◌≡◌, ◌++◌, drop, length}
use Rattle.embed.specs.Inputs.{givens_by}
use Rattle.embed.specs.Rows.{verdict_rows, verdict_names}
use Rattle.embed.proofs.verifying.verdict_rows.Given as goal

-- the rows and the names so far, and then those that are left
abbrev pub invariant-loop-at : goal.invariant-loop-at
invariant-loop-at l = record {
  rows : l.rows.items ++ verdict_rows (length l.names.items) (drop l.at l.verdicts) (drop l.at (givens_by l.files)) ≡ verdict_rows (length l.initial.names.items) l.verdicts (givens_by l.files);
  names : l.names.items ++ verdict_names (drop l.at l.verdicts) ≡ l.initial.names.items ++ verdict_names l.verdicts;
}
