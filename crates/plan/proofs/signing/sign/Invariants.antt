use Rattle.plan.specs.Questions.{Grows}
use Rattle.plan.proofs.signing.sign.Given as goal

abbrev pub invariant-loop-id : goal.invariant-loop-id
invariant-loop-id l = Grows l.initial.draft l.draft
