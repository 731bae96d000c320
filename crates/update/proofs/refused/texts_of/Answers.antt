use Rattle.std.proofs.Common.{◌≡◌, ◌∙◌, ◌<◌, ◌≤◌, ap, get_or, length, map, string_bytes, subst, sym}
use Rattle.std.proofs.lemmas.List.{take_all}
use Rattle.std.proofs.lemmas.List.Elements.{All-get_or}
use Rattle.measured.specs.Known.{IsCovered}
use Rattle.update.specs.Runs.{path_text}
use Rattle.update.proofs.Refusing.{one_more}
use Rattle.update.proofs.refused.texts_of.Goals as goal

pub loop-search-init : goal.loop-search-init
loop-search-init c targets known = ap (map string_bytes) c.new-texts.ensures.items

pub text_of-requires : goal.text_of-requires
text_of-requires c =
    let searches = c.args.course.now.searches in
    let consistent = c.args.course.now.trusted.root.reading.consistent in
    let all = c.searches-search-items.ensures.value in
    let within = subst (λ l. c.loop-search.search-index < length l) all c.loop-search-test.true in
    let is = subst (λ l. c.search-item.result ≡ get_or l c.loop-search.search-index c.search-item.result) all c.search-item.is in
    record {
      covered = subst (λ k. IsCovered c.args.known.now k c.search-item.result) (sym c.has_consistent_names-consistent.ensures.value)
          (subst (IsCovered c.args.known.now consistent) (sym is)
          (All-get_or (IsCovered c.args.known.now consistent) searches c.loop-search.search-index c.search-item.result within c.requires.covered));
    }

pub loop-search-preserved : goal.loop-search-preserved
loop-search-preserved c targets known =
    let searches = c.args.course.now.searches in
    let consistent = c.args.course.now.trusted.root.reading.consistent in
    let all = c.searches-search-items.ensures.value in
    let within = subst (λ l. c.loop-search.search-index < length l) all c.loop-search-test.true in
    let is = subst (λ l. c.search-item.result ≡ get_or l c.loop-search.search-index c.search-item.result) all c.search-item.is in
    ap (map string_bytes) c.in_ok-push.ensures.items
    ∙ one_more (path_text targets consistent) c.loop-search.texts.items searches c.loop-search.search-index c.search-item.result c.in_ok-text.text within is
    (c.loop-search.invariant targets known)
    (subst (λ k. string_bytes c.in_ok-text.text ≡ path_text targets k c.search-item.result) c.has_consistent_names-consistent.ensures.value (c.in_ok-text.ensures targets known))

pub returns : goal.returns
returns c targets known =
    let end = subst (λ l. length l ≤ c.loop-search.search-index) c.searches-search-items.ensures.value c.loop-search-test.false in
    c.loop-search.invariant targets known
    ∙ ap (map (path_text targets c.args.course.now.trusted.root.reading.consistent)) (take_all c.loop-search.search-index c.args.course.now.searches end)
