use Rattle.std.proofs.Common.{◌≡◌, ◌++◌, drop, length}
use Rattle.embed.specs.Rows.{listed_rows, listed_names}
use Rattle.embed.proofs.listing.listed_rows.Given as goal

-- the rows and the names so far, and then those that are left
abbrev pub invariant-loop-search : goal.invariant-loop-search
invariant-loop-search l = record {
  rows : l.rows.items ++ listed_rows l.consistent (length l.names.items) (drop l.search-index l.all) ≡ listed_rows l.consistent (length l.initial.names.items) l.all;
  names : l.names.items ++ listed_names l.consistent (drop l.search-index l.all) ≡ l.initial.names.items ++ listed_names l.consistent l.all;
}
