use Rattle.std.proofs.Common.{ℕ, ◌<◌, ◌≤◌, sym, subst, arith}
use Rattle.folder.proofs.Sameness.{same_trans}
use Rattle.measured.specs.Closed.{is_found}
use Rattle.measured.specs.Known.{IsKnown}
use Rattle.measured.proofs.Covering.{found_at, one_more_covered}
use Rattle.measured.proofs.reading.read_all.Goals as goal

pub loop-search-preserved : goal.loop-search-preserved
loop-search-preserved g c =
    let was = c.loop-search.invariant in
    let found = is_found c.args.consistent c.args.searches.now in
    record {
      known = λ names h.
          subst (λ hs. IsKnown names hs found c.read.new.known) was.same.holds
          (c.in_ok-read.ensures.known names found
          (found_at c.args.consistent c.args.searches.now c.loop-search.search-index c.search-item.result c.loop-search-test.true c.search-item.is)
          (subst (λ hs. IsKnown names hs found c.loop-search.known) (sym was.same.holds) (was.known names h)));
      covered = one_more_covered c.loop-search.known c.read.new.known c.args.consistent c.args.searches.now c.loop-search.search-index c.search-item.result
          c.loop-search-test.true c.search-item.is c.in_ok-read.ensures.grows was.covered c.in_ok-read.ensures.covered;
      same = same_trans _ _ _ was.same c.in_ok-read.ensures.same;
    }

pub returns-clause-covered : goal.returns-clause-covered
returns-clause-covered g c = λ k d inside. c.loop-search.invariant.covered k d (at_end inside c.loop-search-test.false)
  where
    at_end : {k n i : ℕ} → k < n → n ≤ i → k < i
    at_end p q = grind arith
