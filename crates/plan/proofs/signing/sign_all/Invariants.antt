use Rattle.plan.specs.Questions.{Grows}
use Rattle.plan.proofs.signing.sign_all.Given as goal

abbrev pub invariant-loop-signers : goal.invariant-loop-signers
invariant-loop-signers l = Grows l.initial.draft l.draft
