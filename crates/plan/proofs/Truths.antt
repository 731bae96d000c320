-- The truths of a plan's checks.
use Rattle.std.proofs.Common.{◌≡◌, ◌<◌, ◌∙◌, ℕ, List, Some, option_map, length, slice_get, sym, ap, subst}
use Rattle.std.proofs.lemmas.List.{length-map}
use Rattle.std.proofs.lemmas.Option.{slice_get-map, slice_get_within}
use Rattle.keys.specs.Keys.{Question, question_of, truth_of, truth}
use Rattle.keys.specs.declared.judge.Ask.{Ask}
use Rattle.board.specs.Board as moment
use Rattle.board.proofs.SeatLemmas.{truth_of as at_place}
use Rattle.plan.specs.Questions.{truths_of}

pub below : (qs : List Question) (j : ℕ) (q : Question) → slice_get qs j ≡ Some q → j < length (truths_of qs)
below qs j q at = subst (λ n. j < n) (sym (length-map qs truth_of)) (slice_get_within qs j q at)

pub truth_at : (qs : List Question) (j : ℕ) (a : Ask) → slice_get qs j ≡ Some (question_of a) → moment.truth (truths_of qs) j ≡ truth a
truth_at qs j a at = at_place (truths_of qs) j (truth_of (question_of a)) (slice_get-map truth_of qs j ∙ ap (option_map truth_of) at)
