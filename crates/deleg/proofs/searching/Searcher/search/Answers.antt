use Rattle.std.proofs.Common.{ap, sym, ◌∙◌, refl, option_map}
use Rattle.examine.specs.Checks.{file_in}
use Rattle.deleg.proofs.Starting.{starts_in, starts_by}
use Rattle.deleg.proofs.Walking.{preorder}
use Rattle.deleg.proofs.Caching.{from_state, to_state}
use Rattle.deleg.proofs.searching.Searcher.search.Goals as goal

pub search_or_again-requires : goal.search_or_again-requires
search_or_again-requires g c =
    let s = c.args.self.now in
    record {
      cache = from_state (file_in s.repo.now.metadata) s.moment s.trusted.now c.reading.result.now c.unwrap-snapshot.result.now c.reading-2.result.now s.cache
          (c.reading.ensures.value ∙ ap (λ p. p.reading) c.root.ensures.value) (sym (ap (option_map (λ p. p.now)) c.unwrap-snapshot.ensures) ∙ c.snapshot.ensures.value) c.reading-2.ensures.value s.truth;
    }

pub invariant_of-self : goal.invariant_of-self
invariant_of-self g c =
    let s = c.args.self.now in
    record {
      truth = to_state (file_in s.repo.now.metadata) s.moment s.trusted.now c.reading.result.now c.unwrap-snapshot.result.now c.reading-2.result.now c.search_or_again.new.cache
          (c.reading.ensures.value ∙ ap (λ p. p.reading) c.root.ensures.value) (sym (ap (option_map (λ p. p.now)) c.unwrap-snapshot.ensures) ∙ c.snapshot.ensures.value) c.reading-2.ensures.value c.search_or_again.ensures.cache;
    }

pub returns-clause-searched : goal.returns-clause-searched
returns-clause-searched g c =
    let s = c.args.self.now in
    rw c.of.ensures.path at (starts_in (file_in s.repo.now.metadata) s.moment s.trusted.now c.of.result c.args.limit c.reading.result.now c.unwrap-snapshot.result.now c.unwrap-targets.result.now c.reading-2.result.now c.unwrap-targets.result.now.reading c.search_or_again.result
    (c.reading.ensures.value ∙ ap (λ p. p.reading) c.root.ensures.value) (sym (ap (option_map (λ p. p.now)) c.unwrap-snapshot.ensures) ∙ c.snapshot.ensures.value) (sym (ap (option_map (λ p. p.now)) c.unwrap-targets.ensures) ∙ c.targets.ensures.value) c.reading-2.ensures.value refl c.search_or_again.ensures.searched)

pub returns-clause-preorder : goal.returns-clause-preorder
returns-clause-preorder g c =
    let s = c.args.self.now in
    λ visits is.
    starts_by (file_in s.repo.now.metadata) s.moment s.trusted.now c.args.path.now c.args.limit c.search_or_again.result (returns-clause-searched g c) visits is.0 is.1 is.2

pub returns-clause-solved : goal.returns-clause-solved
returns-clause-solved g c = λ snap.
    preorder (file_in c.args.self.now.repo.now.metadata) c.args.self.now.moment c.args.self.now.trusted.now.root.reading snap c.args.path.now c.args.limit
