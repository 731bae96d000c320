use Rattle.std.proofs.Common.{◌≡◌, drop, fold, map}
use Rattle.needs.specs.Glue.{IsOnce}
use Rattle.needs.specs.Needs.{noted, search_need}
use Rattle.needs.proofs.list.note_searches.Given as goal

-- the files so far, and then those of the searches that are left
abbrev pub invariant-loop-search : goal.invariant-loop-search
invariant-loop-search l = record {
  once : IsOnce l.once;
  so_far : fold noted l.once.needs.items (map (search_need l.trusted) (drop l.search-index l.searches)) ≡ fold noted l.initial.once.needs.items (map (search_need l.trusted) l.searches);
}
