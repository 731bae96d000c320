use Rattle.std.proofs.Common.{◌≡◌, ◌++◌, drop, length}
use Rattle.embed.specs.Rows.{role_rows, role_names}
use Rattle.embed.proofs.verifying.role_rows.Given as goal

-- the rows and the names so far, and then those that are left
abbrev pub invariant-loop-accepted : goal.invariant-loop-accepted
invariant-loop-accepted l = record {
  rows : l.rows.items ++ role_rows (length l.names.items) (drop l.accepted-index l.roles) ≡ role_rows (length l.initial.names.items) l.roles;
  names : l.names.items ++ role_names (drop l.accepted-index l.roles) ≡ l.initial.names.items ++ role_names l.roles;
}
