-- From what a contract sees of a board and a seat to their fields.
use Rattle.std.proofs.Common.{◌≡◌, ℕ, ◌<◌, ◌+◌, ◌≤◌, Bool, List, [], length, sym, ap, ◌∙◌, subst, refl, eqb, arith, inl, inr, ⊎_elim, ◌++◌, ◌∷◌, true, false}
use Rattle.std.specs.Prelude.{Option, Some, None, IfSome}
use Rattle.std.proofs.lemmas.Option.{none-some, same_Some}
use Rattle.std.specs.List.{IsDistinct}
use Rattle.board.specs.declared.look.Look.{Look}
use Rattle.board.specs.declared.look.Look.TheVariants.{Open, Taken, Valid, Invalid}
use Rattle.board.specs.declared.checks.TheConstants.{MOST_CHECKS}
use Rattle.board.specs.Board.{IsVerdict, word_of_look, truth, IsDecided, Sat, newcomer, holding, released, having_seen, having_found, having_done, BoardValue, SeatValue, IsSeatOf, IsKept, HasAll, Keeps}
use Rattle.board.proofs.Keeps.{not_open, not_taken}
use Rattle.board.proofs.SeatLemmas.{keeps_all}
use Rattle.board.specs.declared.view.View.{View}
use Rattle.atomic_table.specs.Seated.{TableId}

module _ (b b' : BoardValue) (s s' : SeatValue) (is : b ≡ b') (at : s ≡ s') (sits : IsSeatOf b' s') where
  pub same_table : s.board ≡ b.id
  same_table = ap (λ (z : SeatValue). z.board) at ∙ sits.0 ∙ sym (ap (λ (z : BoardValue). z.id) is)

  pub same_truths : s.view.truths ≡ b.truths
  same_truths = ap (λ (z : SeatValue). z.view.truths) at ∙ sits.1 ∙ sym (ap (λ (z : BoardValue). z.truths) is)

pub within_board : (b b' : BoardValue) (j : ℕ) → b ≡ b' → j < length b'.truths → j < length b.truths
within_board b b' j is h = subst (λ (z : BoardValue). j < length z.truths) (sym is) h

pub right_of : (s s' : SeatValue) → s ≡ s' → s.view.right ≡ s'.view.right
right_of s s' at = ap (λ (z : SeatValue). z.view.right) at

module _ (me me' : Sat) (held : Option ℕ) (published : ℕ) (k : IsKept me held published) where
  pub kept_same : me' ≡ me → IsKept me' held published
  kept_same e = subst (λ (m : Sat). IsKept m held published) (sym e) k

  -- the number and the check stay, and what the seat knows of others changes
  pub kept : me'.1 ≡ me.1 → me'.0.right ≡ me.0.right → me'.0.done ≡ me.0.done → me'.0.truths ≡ me.0.truths → IsKept me' held published
  kept slots right done of = record {
    no_slot = slots ∙ k.no_slot;
    holds = k.holds ∙ sym right;
    counted = k.counted ∙ sym (ap length done);
    most = k.most;
    once = subst (IsDistinct eqb) (sym done) k.once;
    within = λ j e. subst (λ (xs : List Bool). j < length xs) (sym of) (k.within j e);
  }

  pub kept_holding : (j : ℕ) → j < length me.0.truths → me' ≡ (holding me.0 j, me.1) → IsKept me' (Some j) published
  kept_holding j within e = subst (λ (m : Sat). IsKept m (Some j) published) (sym e) (record { no_slot = k.no_slot; holds = refl; counted = k.counted; most = k.most; once = k.once; within = λ i e. subst (λ n. n < length me.0.truths) (same_Some j i e) within })

  pub kept_released : me' ≡ (released me.0, me.1) → IsKept me' None published
  kept_released e = subst (λ (m : Sat). IsKept m None published) (sym e) (record { no_slot = k.no_slot; holds = refl; counted = k.counted; most = k.most; once = k.once; within = λ j e. absurd (none-some j e) })

  -- one verdict more
  pub kept_done : (j : ℕ) → me' ≡ (having_done me.0 j, me.1) → IsDistinct eqb me'.0.done → length me'.0.done ≤ MOST_CHECKS → IsKept me' None (published + 1)
  kept_done j e once most =
      let longer : length me'.0.done ≡ length me.0.done + 1 = ap (λ (m : Sat). length m.0.done) e ∙ length_snoc me.0.done j in
      let was = k.counted in
      record {
        no_slot = ap (λ (m : Sat). m.1) e ∙ k.no_slot;
        holds = sym (ap (λ (m : Sat). m.0.right) e);
        counted = omega arith;
        most = omega arith;
        once = once;
        within = λ i e. absurd (none-some i e);
      }
    where
      length_snoc : (xs : List ℕ) (x : ℕ) → length (xs ++ x ∷ []) ≡ length xs + 1
      length_snoc [] x = refl
      length_snoc (y ∷ ys) x = let r = length_snoc ys x in omega arith

pub kept_new : (me : Sat) (truths : List Bool) → me ≡ (newcomer truths, []) → IsKept me None 0
unfolding IsDistinct
kept_new me truths e = subst (λ (m : Sat). IsKept m None 0) (sym e) (record { no_slot = refl; holds = refl; counted = refl; most = omega arith; once = tt; within = λ j e. absurd (none-some j e) })

-- a seat whose table and view are another's
pub same_seat : (t t' : TableId) (v v' : View) (s : SeatValue) → ◌≡◌ {A = SeatValue} (record { board = t; view = v }) s → t' ≡ t → v' ≡ v → ◌≡◌ {A = SeatValue} (record { board = t'; view = v' }) s
same_seat t t' v v' s at table view = cc

-- a seat of the same table, whose view has all that it had
pub keeps_seat : (t t' : TableId) (v w : View) (s : SeatValue) → ◌≡◌ {A = SeatValue} (record { board = t; view = v }) s → t' ≡ t → HasAll v w → Keeps s (record { board = t'; view = w })
keeps_seat t t' v w s at table all = keeps_all _ _ (table ∙ ap (λ (z : SeatValue). z.board) at) (subst (λ (z : SeatValue). HasAll z.view w) at all)

-- the result of a look and the word
pub verdict_word : (l : Look) → IsVerdict l → IsDecided (word_of_look l)
verdict_word l v = ⊎_elim (λ (e : l ≡ Valid). inl (ap word_of_look e)) (λ (e : l ≡ Invalid). inr (ap word_of_look e)) v

pub word_verdict : (l : Look) → IsDecided (word_of_look l) → IsVerdict l
word_verdict Open d = ⊎_elim (λ (e : 0 ≡ 2). absurd (omega arith)) (λ (e : 0 ≡ 3). absurd (omega arith)) d
word_verdict Taken d = ⊎_elim (λ (e : 1 ≡ 2). absurd (omega arith)) (λ (e : 1 ≡ 3). absurd (omega arith)) d
word_verdict Valid d = inl refl
word_verdict Invalid d = inr refl

pub word_taken : (l : Look) → word_of_look l ≡ 1 → l ≡ Taken
word_taken Open e = absurd (omega arith)
word_taken Taken e = refl
word_taken Valid e = absurd (omega arith)
word_taken Invalid e = absurd (omega arith)

-- the word that a verdict is stored as
pub verdict_is : (b truth : Bool) (n : ℕ) → b ≡ truth → (b ≡ true → n ≡ 2) → (b ≡ false → n ≡ 3) → (n ≤ 3) × IsDecided n × (n ≡ 2 → truth ≡ true) × (n ≡ 3 → truth ≡ false)
verdict_is true t n e good bad = let two = good refl in (omega arith, inl two, (λ _. sym e), λ three. absurd (omega arith))
verdict_is false t n e good bad = let three = bad refl in (omega arith, inr three, (λ two. absurd (omega arith)), λ _. sym e)

-- a seat that saw a verdict, or nothing
pub kept_looked : (me me' : Sat) (held : Option ℕ) (published j n : ℕ) (l : Look) → (IsVerdict l → me' ≡ (having_found n (having_seen me.0 j), me.1))
    → (¬ IsVerdict l → me' ≡ (having_found n me.0, me.1)) → IsKept me held published → IsKept me' held published
kept_looked me me' held published j n l seen same k = by_word l seen same
  where
    found : me' ≡ (having_found n me.0, me.1) → IsKept me' held published
    found e = kept me me' held published k (ap (λ (m : Sat). m.1) e) (ap (λ (m : Sat). m.0.right) e) (ap (λ (m : Sat). m.0.done) e) (ap (λ (m : Sat). m.0.truths) e)

    after : me' ≡ (having_found n (having_seen me.0 j), me.1) → IsKept me' held published
    after e = kept me me' held published k (ap (λ (m : Sat). m.1) e) (ap (λ (m : Sat). m.0.right) e) (ap (λ (m : Sat). m.0.done) e) (ap (λ (m : Sat). m.0.truths) e)

    by_word : (l : Look) → (IsVerdict l → me' ≡ (having_found n (having_seen me.0 j), me.1)) → (¬ IsVerdict l → me' ≡ (having_found n me.0, me.1)) → IsKept me' held published
    by_word Open seen same = found (same (λ v. not_open (verdict_word Open v)))
    by_word Taken seen same = found (same (λ v. not_taken (verdict_word Taken v)))
    by_word Valid seen same = after (seen (inl refl))
    by_word Invalid seen same = after (seen (inr refl))

-- the verdict of the check that the seat has claimed
pub claimed_truth : (truths : List Bool) (right : Option ℕ) (verdict : Bool) (j : ℕ) → IfSome right (λ i. verdict ≡ truth truths i) → right ≡ Some j → verdict ≡ truth truths j
claimed_truth truths right verdict j h e = subst (λ o. IfSome o (λ i. verdict ≡ truth truths i)) e h

-- what a seat keeps after a look, a claim and a publication
pub ruleset looks = (kept_looked, keeps_all)

pub ruleset claims = (kept_same, kept_holding, keeps_all)

pub ruleset publishes = (kept_done, claimed_truth, keeps_all)
