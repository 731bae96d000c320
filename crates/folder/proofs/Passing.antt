-- Bytes that are passed on, a piece at a time, while they are measured.
use Rattle.std.proofs.Common.{◌≡◌, ◌≤◌, ◌+◌, ◌-◌, ℕ, min, Bool, true, List, [], ◌++◌, length, None, refl, sym, ◌∙◌, ap, subst, append_assoc, append-nil, arith, length-append}
use Rattle.std.proofs.lemmas.List.{take_all}
use Rattle.folder.specs.Measures.{HasTaken, measure_of}
use Rattle.folder.specs.Passing.{IsPassedOn, IsTaken, PassesOn}
use Rattle.folder.specs.declared.measure.Measure.{Measure}
use Rattle.folder.specs.declared.measure.Measuring.{Measuring}
use Rattle.folder.specs.declared.measure.Need.{Need}
use Rattle.folder.proofs.Taking.{within}

none_passed_piece : (before : List ℕ → Bool) → IsTaken [] before before
none_passed_piece before = λ bytes h. subst (λ b. before b ≡ true) (sym (append-nil bytes)) h

-- nothing was passed on
pub none_passed : (s : Measuring) (before : List ℕ → Bool) → PassesOn s s before before
none_passed s before = record {
  more = record {
    piece = [];
    consumed = tt;
    need = refl;
    counted = omega arith;
    taken = λ bytes h. subst (λ b. HasTaken s b) (sym (append-nil bytes)) h;
  };
  taken = none_passed_piece before;
}

-- a piece was passed on, which was wanted as a whole
pub one_passed : (old new : Measuring) (before after : List ℕ → Bool) (piece : List ℕ) → length piece ≤ old.need.up_to - old.length
    → new.need ≡ old.need → new.length ≡ old.length + min (length piece) (old.need.up_to - old.length)
    → ((bytes : List ℕ) → HasTaken old bytes → HasTaken new (bytes ++ piece)) → IsTaken piece before after → PassesOn old new before after
one_passed old new before after piece few need counted taken passed = record {
  more = record { piece = piece; consumed = tt; need = need; counted = omega (arith, few, counted); taken = taken };
  taken = passed;
}

-- one piece more
pub more_passed : (s t u : Measuring) (a b c : List ℕ → Bool) → PassesOn s t a b → PassesOn t u b c → PassesOn s u a c
more_passed s t u a b c first next = record {
  more = record {
    piece = first.more.piece ++ next.more.piece;
    consumed = tt;
    need = next.more.need ∙ first.more.need;
    counted = let len : length (first.more.piece ++ next.more.piece) ≡ length first.more.piece + length next.more.piece = length-append first.more.piece next.more.piece in
        omega (arith, len, first.more.counted, next.more.counted);
    taken = λ bytes h. subst (λ b. HasTaken u b) (append_assoc bytes first.more.piece next.more.piece) (next.more.taken (bytes ++ first.more.piece) (first.more.taken bytes h));
  };
  taken = λ bytes h. subst (λ l. c l ≡ true) (append_assoc bytes first.more.piece next.more.piece) (next.taken (bytes ++ first.more.piece) (first.taken bytes h));
}

-- the measure of all that was passed on
pub all_passed : (need : Need) (s t : Measuring) (before after : List ℕ → Bool) (m : Measure) → PassesOn s t before after → s.need ≡ need → HasTaken s []
    → ((bytes : List ℕ) → HasTaken t bytes → m ≡ measure_of t.need bytes) → IsPassedOn need (λ _. true) before after m
all_passed need s t before after m passed same new end =
    let few : length passed.more.piece ≤ need.up_to = subst (λ n. length passed.more.piece ≤ n.up_to) (passed.more.need ∙ same) (within s t None None passed.more new) in
    record {
      bytes = passed.more.piece;
      held = refl;
      measure = end passed.more.piece (passed.more.taken [] new) ∙ ap (λ n. measure_of n passed.more.piece) (passed.more.need ∙ same);
      taken = subst (λ l. IsTaken l before after) (sym (take_all need.up_to passed.more.piece few)) passed.taken;
    }
