use Rattle.std.proofs.Common.{◌≡◌, ◌+◌, ◌<◌, ◌≤◌, get_or, length, sym, ◌∙◌, subst, take, true}
use Rattle.folder.proofs.Sameness.{same_trans}
use Rattle.measured.specs.Closed.{is_found, is_found_by}
use Rattle.measured.specs.Copied.{AreCopiesFor}
use Rattle.measured.specs.Known.{IsKnown}
use Rattle.measured.proofs.Covering.{found_at}
use Rattle.measured.proofs.Fitted.{all_copied, one_copy_more}
use Rattle.measured.proofs.copying.copy_all.Goals as goal

pub loop-search-preserved : goal.loop-search-preserved
loop-search-preserved g c =
    let was = c.loop-search.invariant in
    let consistent = c.args.course.now.trusted.root.reading.consistent in
    let searches = c.args.course.now.searches in
    let found = is_found consistent searches in
    let all = c.searches-search-items.ensures.value in
    let within = subst (λ l. c.loop-search.search-index < length l) all c.loop-search-test.true in
    let is = subst (λ l. c.search-item.result ≡ get_or l c.loop-search.search-index c.search-item.result) all c.search-item.is in
    record {
      known = λ names h.
          subst (λ hs. IsKnown names hs found c.copy_one.new.known) was.same.holds
          (c.in_ok-copy.ensures.known names found
          (λ name by. found_at consistent searches c.loop-search.search-index c.search-item.result within is name
          (subst (λ k. is_found_by k name c.search-item.result ≡ true) c.has_consistent_names-consistent.ensures.value by))
          (subst (λ hs. IsKnown names hs found c.loop-search.known) (sym was.same.holds) (was.known names h)));
      copies = subst (λ v. AreCopiesFor g.D.Temporary.Temporary.wrote v (take (c.loop-search.search-index + 1) c.args.course.now.searches)) (sym c.in_ok-push.ensures.items)
          (one_copy_more g.D.Temporary.Temporary.wrote c.loop-search.copies.items c.args.course.now.searches c.loop-search.search-index c.in_ok-copy.copy c.search-item.result
          within is was.copies c.in_ok-copy.ensures.copy);
      same = same_trans _ _ _ was.same c.in_ok-copy.ensures.same;
      same_site = c.in_ok-copy.ensures.same_site ∙ was.same_site;
    }

pub returns-clause-copies : goal.returns-clause-copies
returns-clause-copies g c = all_copied _ _ c.args.course.now.searches c.loop-search.search-index
    (subst (λ l. length l ≤ c.loop-search.search-index) c.searches-search-items.ensures.value c.loop-search-test.false) c.loop-search.invariant.copies
