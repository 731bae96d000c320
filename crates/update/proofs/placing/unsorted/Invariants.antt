use Rattle.std.proofs.Common.{◌≡◌, ◌++◌, map, string_bytes}
use Rattle.std.specs.Iterator.Adapters.{zip_first, zip_second}
use Rattle.std.specs.Slice.Iter.{iter_rest}
use Rattle.update.specs.Copies.{good_paths}
use Rattle.update.specs.Stored.{lent_texts}
use Rattle.update.proofs.placing.unsorted.Given as goal

abbrev pub invariant-loop-path : goal.invariant-loop-path
invariant-loop-path l =
    let wanted = map string_bytes (iter_rest (zip_first l.path-iterator)) in
    let verdicts = iter_rest (zip_second l.path-iterator) in
    lent_texts l.paths.items ++ good_paths wanted verdicts ≡ good_paths (map string_bytes l.wanted) l.verdicts
