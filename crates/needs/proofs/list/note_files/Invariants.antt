use Rattle.std.proofs.Common.{◌≡◌, drop, fold}
use Rattle.needs.specs.Glue.{IsOnce}
use Rattle.needs.specs.Needs.{is_in, noted_files}
use Rattle.needs.proofs.list.note_files.Given as goal

-- the files so far, and then those of the searches that are left
abbrev pub invariant-loop-search : goal.invariant-loop-search
invariant-loop-search g l = record {
  once : IsOnce l.once;
  so_far : fold (noted_files (is_in l.targets) l.consistent) l.once.needs.items (drop l.search-index l.searches) ≡ fold (noted_files (is_in l.targets) l.consistent) l.initial.once.needs.items l.searches;
}
