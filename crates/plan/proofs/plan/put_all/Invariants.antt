use Rattle.plan.specs.Questions.{Grows}
use Rattle.plan.proofs.plan.put_all.Given as goal

abbrev pub invariant-loop-listed : goal.invariant-loop-listed
invariant-loop-listed l = record {
  can : (goal.iterator-loop-listed).can_next l.listed-iterator;
  ends : (goal.iterator-loop-listed).is_finite l.listed-iterator;
  draft : Grows l.initial.draft l.draft;
}
