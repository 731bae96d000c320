-- Each step keeps the board's invariant.
use Rattle.std.proofs.Common.{◌≡◌, ◌≢◌, ◌⊎◌, ℕ, zero, suc, ◌+◌, ◌≤◌, ◌<◌, Bool, true, false, eqb, List, [], ◌∷◌, ◌++◌, length, set, refl, sym, ap, ◌∙◌, subst, inl, inr, ⊎_elim, arith, true≢false, length-set, get_or-set_same}
use Rattle.std.specs.Prelude.{Some, None, slice_index, ◌↔◌, ◌||◌}
use Rattle.std.specs.List.{Contains, IsDistinct}
use Rattle.std.proofs.lemmas.List.{get_or-set_other, set-get_or}
use Rattle.std.proofs.lemmas.Option.{none-some, same_Some}
use mathlib.Core.Logic.{dite}
use mathlib.Core.Option.{some, none, some-ne-none, some-injective}
use native.Mathlib.Decide.{ℕ_discrete}
use lib.ListN.{get_elem?}
use prog.Atomic.{either}
use Rattle.atomic_table.specs.Table.{State, Act, step, keeps, stepped, carried_after, Valid, Allows, Splits, Joins}
use Rattle.atomic_table.proofs.Lists.{at_set, at_snoc, at_longer, set_else, set_again, exchanged}
use Rattle.board.specs.declared.view.View.{View}
use Rattle.board.specs.Board.{truth, stop_word, check_word, IsDecided, times, times_done, Holds, Knows, IsLawful, Sat, newcomer, holding, released, having_seen, having_found, having_done, halting, joined, Claims, Publishes, GivesBack, Sees, Looks, Stops, Notices, Counts}
use Rattle.board.proofs.Counting.{contains_nil, contains_cons, contains_append, times_append, times_one, times_else, distinct, at_most, times_done_set, times_done_snoc, times_done_at, nobody_did}

-- reading a list of views after a write
at_here : (l : List View) (i : ℕ) (a b : View) → get_elem? l i ≡ some a → get_elem? (set l i b) i ≡ some b
at_here [] i a b e = absurd (some-ne-none a (sym e))
at_here (x ∷ xs) zero a b e = refl
at_here (x ∷ xs) (suc i) a b e = at_here xs i a b e

same_view : (l : List View) (i : ℕ) (a b : View) → get_elem? l i ≡ some a → get_elem? l i ≡ some b → a ≡ b
same_view l i a b e f = some-injective a b (sym e ∙ f)

-- a fact on each view, where one has changed
all_set : (F : View → Type 0) (views : List View) (id : ℕ) (w : View) → F w → ((seat : ℕ) (u : View) → seat ≢ id → get_elem? views seat ≡ some u → F u)
    → (seat : ℕ) (u : View) → get_elem? (set views id w) seat ≡ some u → F u
all_set F views id w mine others seat u e = ⊎_elim (λ (x : (seat ≡ id) × (w ≡ u)). subst F x.1 mine)
    (λ (x : (seat ≢ id) × (get_elem? views seat ≡ some u)). others seat u x.0 x.1) (at_set views id seat w u e)

pub not_open : IsDecided 0 → ⊥
not_open d = ⊎_elim (λ (e : 0 ≡ 2). absurd (omega arith)) (λ (e : 0 ≡ 3). absurd (omega arith)) d

pub not_taken : IsDecided 1 → ⊥
not_taken d = ⊎_elim (λ (e : 1 ≡ 2). absurd (omega arith)) (λ (e : 1 ≡ 3). absurd (omega arith)) d

-- the claim after a write to a view
holds_set : (views : List View) (id : ℕ) (w : View) (j seat : ℕ) → Holds (set views id w) j seat → ((seat ≡ id) × (w.right ≡ Some j)) ⊎ ((seat ≢ id) × Holds views j seat)
holds_set views id w j seat (u, at, r) = ⊎_elim (λ (x : (seat ≡ id) × (w ≡ u)). inl (x.0, ap (λ (y : View). y.right) x.1 ∙ r))
    (λ (x : (seat ≢ id) × (get_elem? views seat ≡ some u)). inr (x.0, (u, x.1, r))) (at_set views id seat w u at)

holds_else : (views : List View) (id : ℕ) (w : View) (j seat : ℕ) → seat ≢ id → Holds views j seat → Holds (set views id w) j seat
holds_else views id w j seat ne (u, at, r) = (u, set_else views id seat w ne ∙ at, r)

module _ (truths : List Bool) (words : List ℕ) (views : List View) (l : IsLawful truths words views) (id : ℕ) (v : View) (at : get_elem? views id ≡ some v) where
  -- what the seat's own view says
  pub mine_taken : (j : ℕ) → v.right ≡ Some j → check_word words j ≡ 1
  mine_taken j r = (l.taken j).1 (id, (v, at, r))

  pub mine_decided : (j : ℕ) → Knows v j → IsDecided (check_word words j)
  mine_decided j k = l.decided id v j at k

  pub mine_once : (j : ℕ) → times j v.done ≤ 1
  mine_once j = let a = times_done_at j views id v at in let b = l.once j in omega arith

  -- a check whose word is not 0 is one of the checks
  pub inside : (j : ℕ) → check_word words j ≢ 0 → j < length truths
  inside j ne = dite (native.Mathlib.Decide.dec_le (length truths) j) (λ le. absurd (ne (past words (j + 1) (let s = l.size in omega arith)))) (λ not. omega arith)
    where
      past : (ws : List ℕ) (i : ℕ) → length ws ≤ i → slice_index ws i ≡ 0
      past [] i h = refl
      past (w ∷ ws) zero h = absurd (omega arith)
      past (w ∷ ws) (suc i) h = past ws i (omega arith)

  pub mine_distinct : IsDistinct eqb v.done
  mine_distinct = distinct v.done mine_once

  pub mine_fits : length v.done ≤ length truths
  mine_fits = at_most v.done (length truths) mine_distinct (λ j c. inside j (λ z. not_open (subst IsDecided z (mine_decided j (inr c)))))

  -- the words stay, and so does the claim
  pub turns : (w : View) → w.right ≡ v.right → ((j : ℕ) → Knows w j → IsDecided (check_word words j)) → ((j : ℕ) → times_done j (set views id w) ≤ 1) → (w.halted ≡ true → stop_word words ≡ 1)
      → IsLawful truths words (set views id w)
  turns w right knows once halted = record {
    size = l.size;
    values = l.values;
    stop_value = l.stop_value;
    valid = l.valid;
    invalid = l.invalid;
    taken = λ j. (
      (λ one. let (seat, h) = (l.taken j).0 one in (seat, keeps_right j seat h)),
      (λ (seat, h). (l.taken j).1 (seat, had_right j seat h)),
    );
    alone = λ j a b ha hb. l.alone j a b (had_right j a ha) (had_right j b hb);
    decided = λ seat u j e. all_set (λ (y : View). Knows y j → IsDecided (check_word words j)) views id w (knows j) (λ seat u ne e. l.decided seat u j e) seat u e;
    once = once;
    halted = all_set (λ (y : View). y.halted ≡ true → stop_word words ≡ 1) views id w halted (λ seat u ne e. l.halted seat u e);
  }
    where
      had_right : (j seat : ℕ) → Holds (set views id w) j seat → Holds views j seat
      had_right j seat h = ⊎_elim (λ (x : (seat ≡ id) × (w.right ≡ Some j)). subst (Holds views j) (sym x.0) (v, at, sym right ∙ x.1)) (λ (x : (seat ≢ id) × Holds views j seat). x.1) (holds_set views id w j seat h)

      keeps_right : (j seat : ℕ) → Holds views j seat → Holds (set views id w) j seat
      keeps_right j seat h = dite (ℕ_discrete seat id)
          (λ e. subst (Holds (set views id w) j) (sym e) (w, at_here views id v w at, right ∙ ap (λ (y : View). y.right) (same_view views id v h.0 at (subst (λ k. get_elem? views k ≡ some h.0) e h.1)) ∙ h.2))
          (λ ne. holds_else views id w j seat ne h)

  -- and so does what was done
  pub stays : (w : View) → w.right ≡ v.right → w.done ≡ v.done → ((j : ℕ) → Contains w.seen j → IsDecided (check_word words j)) → (w.halted ≡ true → stop_word words ≡ 1)
      → IsLawful truths words (set views id w)
  stays w right done seen halted = turns w right
      (λ j k. ⊎_elim (λ s. seen j s) (λ d. mine_decided j (inr (subst (λ xs. Contains xs j) done d))) k)
      (λ j. let s = times_done_set j views id v w at in let o = l.once j in let d : times j w.done ≡ times j v.done = ap (times j) done in omega arith)
      halted

only : (x y : ℕ) → Contains (x ∷ []) y → x ≡ y
only x y c = ⊎_elim (λ (e : x ≡ y). e) (λ (d : Contains [] y). absurd (contains_nil y d)) (contains_cons x [] y c)

-- the words after a write of one
words_here : (words : List ℕ) (i n : ℕ) → i < length words → slice_index (set words i n) i ≡ n
words_here words i n h = get_or-set_same words i n 0 h

words_else : (words : List ℕ) (i k n : ℕ) → k ≢ i → slice_index (set words i n) k ≡ slice_index words k
words_else words i k n ne = get_or-set_other words i k n 0 ne

-- a fact on each check's word, where one has changed
each_word : (F : ℕ → ℕ → Type 0) (words : List ℕ) (j n : ℕ) → j + 1 < length words → F j n → ((i : ℕ) → i ≢ j → F i (check_word words i)) → (i : ℕ) → F i (check_word (set words (j + 1) n) i)
each_word F words j n h mine others i = dite (ℕ_discrete i j)
    (λ e. subst (λ (k : ℕ). F k (check_word (set words (j + 1) n) k)) (sym e) (subst (F j) (sym (words_here words (j + 1) n h)) mine))
    (λ ne. subst (F i) (sym (words_else words (j + 1) (i + 1) n (λ e. ne (omega arith)))) (others i ne))

module _ (truths : List Bool) (words : List ℕ) (views : List View) (l : IsLawful truths words views) (id : ℕ) (v : View) (at : get_elem? views id ≡ some v) where
  -- the word of one check changes, which was open or claimed by this seat alone
  pub changes : (j : ℕ) → j < length truths → (open_yet : IsDecided (check_word words j) → ⊥) → ((seat : ℕ) → seat ≢ id → Holds views j seat → ⊥)
      → (n : ℕ) → n ≤ 3 → (n ≡ 2 → truth truths j ≡ true) → (n ≡ 3 → truth truths j ≡ false)
      → (w : View) → (n ≡ 1 ↔ (w.right ≡ Some j)) → ((i : ℕ) → i ≢ j → (v.right ≡ Some i → ⊥) × (w.right ≡ Some i → ⊥))
      → ((i : ℕ) → Knows w i → ((i ≡ j) × IsDecided n) ⊎ Knows v i) → ((i : ℕ) → times_done i (set views id w) ≤ 1) → w.halted ≡ v.halted
      → IsLawful truths (set words (j + 1) n) (set views id w)
  changes j inside open_yet nobody n most valid invalid w right elsewhere knows once halted = record {
    size = length-set words (j + 1) n ∙ l.size;
    values = each_word (λ i k. k ≤ 3) words j n fits most (λ i ne. l.values i);
    stop_value = subst (λ (k : ℕ). k ≤ 1) (sym stop_same) l.stop_value;
    valid = each_word (λ i k. k ≡ 2 → truth truths i ≡ true) words j n fits valid (λ i ne. l.valid i);
    invalid = each_word (λ i k. k ≡ 3 → truth truths i ≡ false) words j n fits invalid (λ i ne. l.invalid i);
    taken = each_word (λ i k. k ≡ 1 ↔ ((seat : ℕ) × Holds (set views id w) i seat)) words j n fits (
      (λ one. (id, (w, at_here views id v w at, right.0 one))),
      (λ (seat, h). ⊎_elim (λ (x : (seat ≡ id) × (w.right ≡ Some j)). right.1 x.1) (λ (x : (seat ≢ id) × Holds views j seat). absurd (nobody seat x.0 x.1)) (holds_set views id w j seat h)),
    )
        (λ i ne. (
          (λ one. let (seat, h) = (l.taken i).0 one in (seat, holds_else views id w i seat (λ e. let u = h.0 in (elsewhere i ne).0 (ap (λ (y : View). y.right) (same_view views id v u at (subst (λ k. get_elem? views k ≡ some u) e h.1)) ∙ h.2)) h)),
          (λ (seat, h). ⊎_elim (λ (x : (seat ≡ id) × (w.right ≡ Some i)). absurd ((elsewhere i ne).1 x.1)) (λ (x : (seat ≢ id) × Holds views i seat). (l.taken i).1 (seat, x.1)) (holds_set views id w i seat h)),
        ));
    alone = λ i a b ha hb. ⊎_elim
        (λ (x : (a ≡ id) × (w.right ≡ Some i)). ⊎_elim (λ (y : (b ≡ id) × (w.right ≡ Some i)). x.0 ∙ sym y.0) (λ (y : (b ≢ id) × Holds views i b). absurd (not_both i x.1 b y.0 y.1)) (holds_set views id w i b hb))
        (λ (x : (a ≢ id) × Holds views i a). ⊎_elim (λ (y : (b ≡ id) × (w.right ≡ Some i)). absurd (not_both i y.1 a x.0 x.1)) (λ (y : (b ≢ id) × Holds views i b). l.alone i a b x.1 y.1) (holds_set views id w i b hb))
        (holds_set views id w i a ha);
    decided = λ seat u i e. all_set (λ (y : View). Knows y i → IsDecided (check_word (set words (j + 1) n) i)) views id w
        (λ k. ⊎_elim (λ (x : (i ≡ j) × IsDecided n). subst (λ (z : ℕ). IsDecided (check_word (set words (j + 1) n) z)) (sym x.0) (subst IsDecided (sym (words_here words (j + 1) n fits)) x.1)) (λ (x : Knows v i). known i (l.decided id v i at x)) (knows i k))
        (λ seat u ne e k. known i (l.decided seat u i e k)) seat u e;
    once = once;
    halted = all_set (λ (y : View). y.halted ≡ true → stop_word (set words (j + 1) n) ≡ 1) views id w
        (λ h. stop_same ∙ l.halted id v at (sym halted ∙ h)) (λ seat u ne e h. stop_same ∙ l.halted seat u e h);
  }
    where
      fits : j + 1 < length words
      fits = let s = l.size in omega arith

      stop_same : stop_word (set words (j + 1) n) ≡ stop_word words
      stop_same = words_else words (j + 1) 0 n (λ e. omega arith)

      known : (i : ℕ) → IsDecided (check_word words i) → IsDecided (check_word (set words (j + 1) n) i)
      known i d = subst IsDecided (sym (words_else words (j + 1) (i + 1) n (λ e. let same : i ≡ j = omega arith in open_yet (subst (λ (z : ℕ). IsDecided (check_word words z)) same d)))) d

      not_both : (i : ℕ) → w.right ≡ Some i → (seat : ℕ) → seat ≢ id → Holds views i seat → ⊥
      not_both i r seat ne h = dite (ℕ_discrete i j) (λ e. nobody seat ne (subst (λ (z : ℕ). Holds views z seat) e h)) (λ other. (elsewhere i other).1 r)

-- the stop word becomes 1
pub marks : (truths : List Bool) (words : List ℕ) (views : List View) → IsLawful truths words views → IsLawful truths (set words 0 1) views
marks truths words views l = record {
  size = length-set words 0 1 ∙ l.size;
  values = λ j. subst (λ (k : ℕ). k ≤ 3) (sym (same j)) (l.values j);
  stop_value = let o = one in omega arith;
  valid = λ j e. l.valid j (sym (same j) ∙ e);
  invalid = λ j e. l.invalid j (sym (same j) ∙ e);
  taken = λ j. ((λ e. (l.taken j).0 (sym (same j) ∙ e)), (λ h. same j ∙ (l.taken j).1 h));
  alone = l.alone;
  decided = λ seat u j e k. subst IsDecided (sym (same j)) (l.decided seat u j e k);
  once = l.once;
  halted = λ seat u e h. one;
}
  where
    one : stop_word (set words 0 1) ≡ 1
    one = words_here words 0 1 (let s = l.size in omega arith)

    same : (j : ℕ) → check_word (set words 0 1) j ≡ check_word words j
    same j = words_else words 0 (j + 1) 1 (λ e. omega arith)

-- one more seat, which knows nothing
pub enters : (truths : List Bool) (words : List ℕ) (views : List View) → IsLawful truths words views → (of : List Bool) → IsLawful truths words (views ++ newcomer of ∷ [])
enters truths words views l of = record {
  size = l.size;
  values = l.values;
  stop_value = l.stop_value;
  valid = l.valid;
  invalid = l.invalid;
  taken = λ j. ((λ e. let (seat, h) = (l.taken j).0 e in (seat, (h.0, at_longer views (newcomer of ∷ []) seat h.0 h.1, h.2))), (λ (seat, h). (l.taken j).1 (seat, had j seat h)));
  alone = λ j a b ha hb. l.alone j a b (had j a ha) (had j b hb);
  decided = λ seat u j e k. ⊎_elim (λ was. l.decided seat u j was k) (λ (new : newcomer of ≡ u). absurd (nothing j (subst (λ (y : View). Knows y j) (sym new) k))) (at_snoc views (newcomer of) u seat e);
  once = λ j. let s = times_done_snoc j views (newcomer of) in let o = l.once j in omega arith;
  halted = λ seat u e h. ⊎_elim (λ was. l.halted seat u was h) (λ (new : newcomer of ≡ u). absurd (true≢false (sym h ∙ ap (λ (y : View). y.halted) (sym new)))) (at_snoc views (newcomer of) u seat e);
}
  where
    nothing : (j : ℕ) → Knows (newcomer of) j → ⊥
    nothing j k = ⊎_elim (λ s. contains_nil j s) (λ d. contains_nil j d) k

    had : (j seat : ℕ) → Holds (views ++ newcomer of ∷ []) j seat → Holds views j seat
    had j seat (u, e, r) = ⊎_elim (λ was. (u, was, r)) (λ (new : newcomer of ≡ u). absurd (none-some j (ap (λ (y : View). y.right) new ∙ r))) (at_snoc views (newcomer of) u seat e)

-- the steps

abbrev St : Type 0
St = State (Unit {0}) View

abbrev Rule : List Bool → St → Type 0
Rule truths s = IsLawful truths s.words s.views

-- a load leaves the words
loads : (truths : List Bool) (s : St) (i id : ℕ) (me : Sat) (w : View) → IsLawful truths s.words (set s.views id w) → Rule truths (stepped s i (slice_index s.words i) id me.1 w keeps)
loads truths s i id me w l = subst (λ (ws : List ℕ). IsLawful truths ws (set s.views id w)) (sym (set-get_or s.words i 0)) l

-- nothing changes
unmoved : (truths : List Bool) (s : St) (i id : ℕ) (me : Sat) → get_elem? s.views id ≡ some me.0 → Rule truths s → Rule truths (stepped s i (slice_index s.words i) id me.1 me.0 keeps)
unmoved truths s i id me at l = loads truths s i id me me.0 (subst (λ (vs : List View). IsLawful truths s.words vs) (sym (set_again s.views id me.0 at)) l)

-- what `Allows` requires at one state, if the word i becomes n
abbrev Next : List Bool → St → ℕ → Sat → ℕ → ℕ → (ℕ → Sat → Type 0) → Type 0
Next truths s id me i n then = (w : View) × (a : Act (Unit {0})) × Valid s.homes me.1 a × Rule truths (stepped s i n id me.1 w a) × then (slice_index s.words i) (w, carried_after me.1 a)

module _ (truths : List Bool) (slots id : ℕ) (me : Sat) where
  module _ (j : ℕ) (within : j < length truths) where
    claim_won : me.0.right ≡ None → (s : St) → Rule truths s → get_elem? s.views id ≡ some me.0 → check_word s.words j ≡ 0 → Next truths s id me (j + 1) 1 (Claims (step slots (j + 1) 0 1 none) me)
    claim_won free s l at open_yet = (
      holding me.0 j,
      keeps,
      tt,
      changes truths s.words s.views l id me.0 at j within (λ d. not_open (subst IsDecided open_yet d)) (λ seat ne h. let one = (l.taken j).1 (seat, h) in absurd (omega arith))
          1 (omega arith) (λ e. absurd (omega arith)) (λ e. absurd (omega arith)) (holding me.0 j) ((λ _. refl), (λ _. refl))
          (λ i ne. ((λ r. none-some i (sym free ∙ r)), (λ r. ne (sym (same_Some j i r)))))
          (λ i k. inr k)
          (λ i. let c = times_done_set i s.views id me.0 (holding me.0 j) at in let o = l.once i in omega arith)
          refl,
      (λ i e. let same : j ≡ i = omega arith in (
        (λ _. (ap (λ (k : ℕ). (holding me.0 k, me.1)) same, subst (λ (k : ℕ). Knows me.0 k → ⊥) same (λ k. not_open (subst IsDecided open_yet (mine_decided truths s.words s.views l id me.0 at j k))))),
        (λ ne. absurd (ne open_yet)),
      )),
    )

    claim_lost : (s : St) → Rule truths s → get_elem? s.views id ≡ some me.0 → check_word s.words j ≢ 0 → Next truths s id me (j + 1) (check_word s.words j) (Claims (step slots (j + 1) 0 1 none) me)
    claim_lost s l at ne = (me.0, keeps, tt, unmoved truths s (j + 1) id me at l, (λ i e. ((λ open_yet. absurd (ne open_yet)), (λ _. refl))))

    pub claims : me.0.right ≡ None → Allows (Rule truths) slots id me (j + 1) (λ n. either (eqb n 0) 1 n) (Claims (step slots (j + 1) 0 1 none) me)
    claims free s l _ at _ = exchanged (check_word s.words j) 0 1 (λ n. Next truths s id me (j + 1) n (Claims (step slots (j + 1) 0 1 none) me)) (claim_won free s l at) (claim_lost s l at)

    -- the verdict is the truth
    pub publishes : me.0.right ≡ Some j → me.0.truths ≡ truths → (n : ℕ) → n ≤ 3 → IsDecided n → (n ≡ 2 → truth truths j ≡ true) → (n ≡ 3 → truth truths j ≡ false)
        → Allows (Rule truths) slots id me (j + 1) (λ _. n) (λ _. Publishes (step slots (j + 1) n 0 none) me n)
    publishes right of n most verdict valid invalid s l _ at _ =
        let taken = mine_taken truths s.words s.views l id me.0 at j right in
        let w : View = having_done me.0 j in
        let open_yet : IsDecided (check_word s.words j) → ⊥ = λ d. not_taken (subst IsDecided taken d) in
        let nobody : times_done j s.views ≡ 0 = nobody_did j s.views (λ seat u e c. open_yet (l.decided seat u j e (inr c))) in
        let after : IsLawful truths (set s.words (j + 1) n) (set s.views id w) =
        changes truths s.words s.views l id me.0 at j within open_yet (λ seat ne h. ne (l.alone j seat id h (me.0, at, right)))
        n most valid invalid w ((λ one. absurd (not_taken (subst IsDecided one verdict))), (λ r. absurd (none-some j r)))
        (λ i ne. ((λ r. ne (sym (same_Some j i (sym right ∙ r)))), (λ r. none-some i r)))
        (λ i k. ⊎_elim
        (λ (c : Contains (me.0.seen ++ j ∷ []) i). ⊎_elim (λ (a : Contains me.0.seen i). inr (inl a)) (λ (b : Contains (j ∷ []) i). inl (sym (only j i b), verdict)) (contains_append me.0.seen (j ∷ []) i c))
        (λ (c : Contains (me.0.done ++ j ∷ []) i). ⊎_elim (λ (a : Contains me.0.done i). inr (inr a)) (λ (b : Contains (j ∷ []) i). inl (sym (only j i b), verdict)) (contains_append me.0.done (j ∷ []) i c)) k)
        (λ i. once_more j i s id me.0 at nobody (l.once i))
        refl in
        let mine = at_here s.views id me.0 w at in (
          w,
          keeps,
          tt,
          after,
          (λ i e. let same : j ≡ i = omega arith in (
            ap (λ (k : ℕ). (having_done me.0 k, me.1)) same,
            (
              mine_distinct truths (set s.words (j + 1) n) (set s.views id w) after id w mine,
              subst (λ (xs : List Bool). length w.done ≤ length xs) (sym of) (mine_fits truths (set s.words (j + 1) n) (set s.views id w) after id w mine),
            ),
          )),
        )
      where
        once_more : (j i : ℕ) (s : St) (id : ℕ) (v : View) → get_elem? s.views id ≡ some v → times_done j s.views ≡ 0 → times_done i s.views ≤ 1 → times_done i (set s.views id (having_done v j)) ≤ 1
        once_more j i s id v at nobody once =
            let c = times_done_set i s.views id v (having_done v j) at in
            let d = times_append i v.done (j ∷ []) in
            dite (ℕ_discrete j i)
            (λ e. let one = times_one i j e in let none_yet : times_done i s.views ≡ 0 = subst (λ (k : ℕ). times_done k s.views ≡ 0) e nobody in omega arith)
            (λ ne. let zero_more = times_else i j ne in omega arith)

    pub gives_back : me.0.right ≡ Some j → Allows (Rule truths) slots id me (j + 1) (λ _. 0) (λ _. GivesBack (step slots (j + 1) 0 0 none) me 0)
    gives_back right s l _ at _ =
        let taken = mine_taken truths s.words s.views l id me.0 at j right in (
          released me.0,
          keeps,
          tt,
          changes truths s.words s.views l id me.0 at j within (λ d. not_taken (subst IsDecided taken d)) (λ seat ne h. ne (l.alone j seat id h (me.0, at, right)))
              0 (omega arith) (λ e. absurd (omega arith)) (λ e. absurd (omega arith)) (released me.0) ((λ one. absurd (omega arith)), (λ r. absurd (none-some j r)))
              (λ i ne. ((λ r. ne (sym (same_Some j i (sym right ∙ r)))), (λ r. none-some i r)))
              (λ i k. inr k)
              (λ i. let c = times_done_set i s.views id me.0 (released me.0) at in let o = l.once i in omega arith)
              refl,
          refl,
        )

    looks_found : (s : St) → Rule truths s → get_elem? s.views id ≡ some me.0 → me.0.truths ≡ truths → (me' : Sat) → (IsDecided (check_word s.words j) → me' ≡ (having_found (check_word s.words j) (having_seen me.0 j), me.1))
        → (¬ IsDecided (check_word s.words j) → me' ≡ (having_found (check_word s.words j) me.0, me.1))
        → Looks (step slots (j + 1) 0 0 none) me (check_word s.words j) me'
    looks_found s l at of me' seen same i e = subst (Sees me (check_word s.words j) me') is (record {
      word = l.values j;
      valid = λ two. subst (λ (xs : List Bool). truth xs j ≡ true) (sym of) (l.valid j two);
      invalid = λ three. subst (λ (xs : List Bool). truth xs j ≡ false) (sym of) (l.invalid j three);
      taken = λ r. mine_taken truths s.words s.views l id me.0 at j r;
      known = λ k. mine_decided truths s.words s.views l id me.0 at j k;
      seen = seen;
      same = same;
    })
      where
        is : j ≡ i
        is = omega arith

    looks_decided : (s : St) → Rule truths s → get_elem? s.views id ≡ some me.0 → me.0.truths ≡ truths → IsDecided (check_word s.words j) → Next truths s id me (j + 1) (check_word s.words j) (Looks (step slots (j + 1) 0 0 none) me)
    looks_decided s l at of d =
        let w : View = having_found (check_word s.words j) (having_seen me.0 j) in (
          w,
          keeps,
          tt,
          loads truths s (j + 1) id me w (stays truths s.words s.views l id me.0 at w refl refl
              (λ i c. ⊎_elim (λ (a : Contains me.0.seen i). l.decided id me.0 i at (inl a)) (λ (b : Contains (j ∷ []) i). subst (λ (k : ℕ). IsDecided (check_word s.words k)) (only j i b) d) (contains_append me.0.seen (j ∷ []) i c))
              (λ h. l.halted id me.0 at h)),
          looks_found s l at of (w, me.1) (λ _. refl) (λ n. absurd (n d)),
        )

    looks_open : (s : St) → Rule truths s → get_elem? s.views id ≡ some me.0 → me.0.truths ≡ truths → ¬ IsDecided (check_word s.words j) → Next truths s id me (j + 1) (check_word s.words j) (Looks (step slots (j + 1) 0 0 none) me)
    looks_open s l at of n =
        let w : View = having_found (check_word s.words j) me.0 in (
          w,
          keeps,
          tt,
          loads truths s (j + 1) id me w (stays truths s.words s.views l id me.0 at w refl refl (λ i c. l.decided id me.0 i at (inl c)) (λ h. l.halted id me.0 at h)),
          looks_found s l at of (w, me.1) (λ d. absurd (n d)) (λ _. refl),
        )

    pub looks : me.0.truths ≡ truths → Allows (Rule truths) slots id me (j + 1) (λ n. n) (Looks (step slots (j + 1) 0 0 none) me)
    looks of s l _ at _ =
        let found : ℕ = check_word s.words j in
        dite (ℕ_discrete found 2) (λ two. looks_decided s l at of (inl two))
        (λ not_two. dite (ℕ_discrete found 3) (λ three. looks_decided s l at of (inr three))
        (λ not_three. looks_open s l at of (λ d. ⊎_elim not_two not_three d)))

  pub stops : Allows (Rule truths) slots id me 0 (λ _. 1) (λ _. Stops (step slots 0 1 0 none) me 1)
  stops s l _ at _ =
      let m = marks truths s.words s.views l in (
        halting me.0,
        keeps,
        tt,
        stays truths (set s.words 0 1) s.views m id me.0 at (halting me.0) refl refl (λ i c. m.decided id me.0 i at (inl c)) (λ _. words_here s.words 0 1 (let z = l.size in omega arith)),
        refl,
      )

  notices_stop : (s : St) → Rule truths s → get_elem? s.views id ≡ some me.0 → stop_word s.words ≡ 1 → Next truths s id me 0 (stop_word s.words) (Notices (step slots 0 0 0 none) me)
  notices_stop s l at one = (
    halting me.0,
    keeps,
    tt,
    loads truths s 0 id me (halting me.0) (stays truths s.words s.views l id me.0 at (halting me.0) refl refl (λ i c. l.decided id me.0 i at (inl c)) (λ _. one)),
    record { word = l.stop_value; known = λ _. one; halted = λ _. refl; same = λ ne. absurd (ne one) },
  )

  notices_none : (s : St) → Rule truths s → get_elem? s.views id ≡ some me.0 → stop_word s.words ≢ 1 → Next truths s id me 0 (stop_word s.words) (Notices (step slots 0 0 0 none) me)
  notices_none s l at ne = (me.0, keeps, tt, unmoved truths s 0 id me at l, record { word = l.stop_value; known = λ h. l.halted id me.0 at h; halted = λ one. absurd (ne one); same = λ _. refl })

  pub notices : Allows (Rule truths) slots id me 0 (λ n. n) (Notices (step slots 0 0 0 none) me)
  notices s l _ at _ = dite (ℕ_discrete (stop_word s.words) 1) (λ one. notices_stop s l at one) (λ ne. notices_none s l at ne)

  -- the list of what was done is learnt by a load
  pub counts : me.0.truths ≡ truths → Allows (Rule truths) slots id me 0 (λ n. n) (Counts (step slots 0 0 0 none) me)
  counts of s l _ at _ = (
    me.0,
    keeps,
    tt,
    unmoved truths s 0 id me at l,
    (refl, (mine_distinct truths s.words s.views l id me.0 at, subst (λ (xs : List Bool). length me.0.done ≤ length xs) (sym of) (mine_fits truths s.words s.views l id me.0 at))),
  )

  pub splits : Splits (Rule truths) id me.0 me.0 (newcomer me.0.truths)
  splits s l at = enters truths s.words (set s.views id me.0) (subst (λ (vs : List View). IsLawful truths s.words vs) (sym (set_again s.views id me.0 at)) l) me.0.truths

  -- the other seat is spent first
  pub joins : (other : ℕ) (w : View) → me.0.right ≡ None → w.right ≡ None → Joins (Rule truths) id me.0 other w (joined me.0 w) (newcomer [])
  joins other w free free' s l at ne at' =
      let both : View = joined me.0 w in
      let was : get_elem? s.views other ≡ some w = sym (set_else s.views id other both ne) ∙ at' in
      let left : List View = set s.views other (newcomer []) in
      let spent : IsLawful truths s.words left = turns truths s.words s.views l other w was (newcomer []) (sym free')
      (λ j k. ⊎_elim (λ (c : Contains [] j). absurd (contains_nil j c)) (λ (c : Contains [] j). absurd (contains_nil j c)) k)
      (λ j. let c = times_done_set j s.views other w (newcomer []) was in let o = l.once j in omega arith)
      (λ h. absurd (true≢false (sym h))) in
      let still : get_elem? left id ≡ some me.0 = set_else s.views other id (newcomer []) (λ e. ne (sym e)) ∙ at in
      let final : IsLawful truths s.words (set left id both) = turns truths s.words left spent id me.0 still both refl
      (λ j k. ⊎_elim
      (λ (c : Contains (me.0.seen ++ w.seen) j). ⊎_elim (λ (a : Contains me.0.seen j). l.decided id me.0 j at (inl a)) (λ (b : Contains w.seen j). l.decided other w j was (inl b)) (contains_append me.0.seen w.seen j c))
      (λ (c : Contains (me.0.done ++ w.done) j). ⊎_elim (λ (a : Contains me.0.done j). l.decided id me.0 j at (inr a)) (λ (b : Contains w.done j). l.decided other w j was (inr b)) (contains_append me.0.done w.done j c)) k)
      (λ j.
      let c = times_done_set j s.views other w (newcomer []) was in
      let d = times_done_set j left id me.0 both still in
      let e = times_append j me.0.done w.done in
      let o = l.once j in omega arith)
      (λ h. ⊎_elim (λ a. l.halted id me.0 at a) (λ b. l.halted other w was b) (either_true me.0.halted w.halted h)) in
      subst (λ (vs : List View). IsLawful truths s.words vs) (set_swap s.views other id (newcomer []) both ne) final
    where
      either_true : (a b : Bool) → (a || b) ≡ true → (a ≡ true) ⊎ (b ≡ true)
      either_true true b h = inl refl
      either_true false b h = inr h

      set_swap : (views : List View) (i k : ℕ) (a b : View) → i ≢ k → set (set views i a) k b ≡ set (set views k b) i a
      set_swap [] i k a b ne = refl
      set_swap (x ∷ xs) zero zero a b ne = absurd (ne refl)
      set_swap (x ∷ xs) zero (suc k) a b ne = refl
      set_swap (x ∷ xs) (suc i) zero a b ne = refl
      set_swap (x ∷ xs) (suc i) (suc k) a b ne = ap (λ (l : List View). x ∷ l) (set_swap xs i k a b (λ e. ne (ap suc e)))

-- the board at the start
pub begins : (truths : List Bool) (words : List ℕ) → length words ≡ length truths + 1 → ((i : ℕ) → slice_index words i ≡ 0) → IsLawful truths words (newcomer truths ∷ [])
begins truths words size zeros = enters truths words [] (record {
  size = size;
  values = λ j. let z = zeros (j + 1) in omega arith;
  stop_value = let z = zeros 0 in omega arith;
  valid = λ j e. let z = zeros (j + 1) in absurd (omega arith);
  invalid = λ j e. let z = zeros (j + 1) in absurd (omega arith);
  taken = λ j. ((λ e. let z = zeros (j + 1) in absurd (omega arith)), (λ (seat, h). absurd (some-ne-none h.0 (sym h.1))));
  alone = λ j a b ha hb. absurd (some-ne-none ha.0 (sym ha.1));
  decided = λ seat u j e k. absurd (some-ne-none u (sym e));
  once = λ j. omega arith;
  halted = λ seat u e h. absurd (some-ne-none u (sym e));
}) truths
