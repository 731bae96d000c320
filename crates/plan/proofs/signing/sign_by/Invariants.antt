use Rattle.plan.specs.Questions.{Grows}
use Rattle.plan.proofs.signing.sign_by.Given as goal

abbrev pub invariant-loop-nth : goal.invariant-loop-nth
invariant-loop-nth l = Grows l.initial.draft l.draft
