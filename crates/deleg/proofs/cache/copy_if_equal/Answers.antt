use Rattle.std.proofs.Common.{◌≡◌, IfSome, subst, rules}
use Rattle.meta.specs.Content.{Part, reading_of}
use Rattle.meta.specs.Metadata.{Targets, targets}
use Rattle.deleg.proofs.Caching.{same_file}
use Rattle.deleg.proofs.cache.copy_if_equal.Goals as goal

pub returns : goal.returns
returns c =
    let same : c.args.one.now.bytes ≡ c.args.other.now.bytes = search rules in
    let equal : c.args.one.now ≡ c.args.other.now =
    same_file (reading_of targets) c.args.one.now c.args.other.now c.reading.result.now c.reading-2.result.now c.reading.ensures.read c.reading.ensures.value c.reading-2.ensures.read c.reading-2.ensures.value same in
    subst (λ (q : Part Targets). IfSome c.ok.result (λ p. p ≡ q)) equal (search rules)
