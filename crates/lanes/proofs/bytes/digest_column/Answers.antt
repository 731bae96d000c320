use Rattle.std.proofs.Common.{rules, ◌≡◌, ◌∙◌, inl, inr, arith}
use Rattle.std.proofs.lemmas.Bool.{cases_lt}
use Rattle.std.proofs.lemmas.List.{get_or-set_same, get_or-set_other}
use Rattle.lanes.proofs.bytes.digest_column.Goals as goal

pub lanes-preserved : goal.lanes-preserved
lanes-preserved g c =
    let call = c.digest_word in
    record {
      size = search rules;
      each = λ i lt. elim (cases_lt i c.lanes.i) [
        | inl before ↦ c.lanes.invariant.each i before
        | inr after ↦
            let e : c.lanes.i ≡ i = omega arith in
            rw (← e) call.ensures.digest
      ];
      words = λ i lt. elim (cases_lt i c.lanes.i) [
        | inl before ↦ get_or-set_other c.lanes.column c.lanes.i i call.result 0 (omega arith) ∙ c.lanes.invariant.words i before
        | inr after ↦
            let e : c.lanes.i ≡ i = omega arith in
            rw (← e) (get_or-set_same c.lanes.column c.lanes.i call.result 0 (omega (arith, c.lanes.invariant.size)) ∙ call.ensures.word)
      ];
    }
