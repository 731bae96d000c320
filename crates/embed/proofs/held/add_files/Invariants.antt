use Rattle.std.proofs.Common.{◌≡◌, drop}
use Rattle.embed.specs.Inputs.{held_in}
use Rattle.embed.specs.Jobs.{with_files}
use Rattle.embed.proofs.held.add_files.Given as goal

-- the files so far, and then those that are left
abbrev pub invariant-loop-at : goal.invariant-loop-at
invariant-loop-at l =
    with_files l.at (held_in l.all) (drop l.at l.files) ≡ with_files 0 (held_in l.initial.all) l.files
