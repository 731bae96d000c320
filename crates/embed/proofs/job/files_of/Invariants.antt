use Rattle.std.proofs.Common.{◌≡◌, drop, fold}
use Rattle.examine.specs.Checks.{file_in}
use Rattle.embed.specs.Jobs.{no_files, with_file}
use Rattle.embed.proofs.job.files_of.Given as goal

-- the files so far, and then those that are left
abbrev pub invariant-loop-file : goal.invariant-loop-file
invariant-loop-file l =
    fold with_file (file_in l.all) (drop l.file-index l.files) ≡ fold with_file no_files l.files
