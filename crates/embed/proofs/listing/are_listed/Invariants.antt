use Rattle.std.proofs.Common.{◌≡◌, drop}
use Rattle.std.specs.List.{list_all}
use Rattle.embed.specs.Outcomes.{is_listed}
use Rattle.embed.proofs.listing.are_listed.Given as goal

-- the paths so far are listed
abbrev pub invariant-loop-search : goal.invariant-loop-search
invariant-loop-search l =
    list_all is_listed (drop l.search-index l.all) ≡ list_all is_listed l.all
