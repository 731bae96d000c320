use Rattle.std.proofs.Common.{◌≡◌, length}
use Rattle.command.proofs.folders.all_folders.Given as goal

-- two folders for each repository so far
abbrev pub invariant-loop-repository : goal.invariant-loop-repository
invariant-loop-repository g l = length l.all.items ≡ l.repository-index
