-- What follows of seats that keep what they had.
use Rattle.std.proofs.Common.{◌≡◌, ℕ, Bool, false, List, [], ◌∷◌, ◌++◌, refl, sym, ap, ◌∙◌, subst, append_assoc, inl, inr, ⊎_elim}
use Rattle.std.proofs.lemmas.List.{append-nil}
use Rattle.board.specs.declared.view.View.{View}
use Rattle.board.specs.declared.look.Look.{Look}
use Rattle.board.specs.declared.look.Look.TheVariants.{Open, Taken, Valid, Invalid}
use Rattle.board.specs.Board.{IsVerdict, holding, having_seen, having_found, having_done, truth, BoardValue, SeatValue, IsSeatOf, IsFree, GoesOn, HasAll, Keeps}
use Rattle.std.specs.Prelude.{slice_get, Some, None}
use Rattle.std.proofs.lemmas.Option.{get_or_from_slice_get}

on_refl : (xs : List ℕ) → GoesOn xs xs
on_refl xs = ([], sym (append-nil xs))

on_trans : (xs ys zs : List ℕ) → GoesOn xs ys → GoesOn ys zs → GoesOn xs zs
on_trans xs ys zs (a, e) (b, f) = (a ++ b, f ∙ ap (λ l. l ++ b) e ∙ append_assoc xs a b)

all_refl : (v : View) → HasAll v v
all_refl v = record { truths = refl; seen = on_refl v.seen; done = on_refl v.done; halted = λ h. h }

all_trans : (u v w : View) → HasAll u v → HasAll v w → HasAll u w
all_trans u v w a b = record {
  truths = b.truths ∙ a.truths;
  seen = on_trans u.seen v.seen w.seen a.seen b.seen;
  done = on_trans u.done v.done w.done a.done b.done;
  halted = λ h. b.halted (a.halted h);
}

pub keeps_refl : (s : SeatValue) → Keeps s s
keeps_refl s = record { board = refl; view = all_refl s.view }

pub keeps_same : (s t : SeatValue) → t ≡ s → Keeps s t
keeps_same s t e = subst (λ (u : SeatValue). Keeps s u) (sym e) (keeps_refl s)

pub keeps_trans : (s t u : SeatValue) → Keeps s t → Keeps t u → Keeps s u
keeps_trans s t u a b = record { board = b.board ∙ a.board; view = all_trans s.view t.view u.view a.view b.view }

pub sits_kept : (b : BoardValue) (s t : SeatValue) → IsSeatOf b s → Keeps s t → IsSeatOf b t
sits_kept b s t sits k = (k.board ∙ sits.0, k.view.truths ∙ sits.1)

pub free_kept : (b : BoardValue) (s t : SeatValue) → IsFree b s → Keeps s t → t.view.right ≡ None → IsFree b t
free_kept b s t free k right = record { seat = sits_kept b s t free.seat k; right = right }

-- the truth of a check that is there
pub truth_of : (truths : List Bool) (j : ℕ) (b : Bool) → slice_get truths j ≡ Some b → truth truths j ≡ b
truth_of truths j b at = get_or_from_slice_get truths j b false at

pub all_same : (v w : View) → w ≡ v → HasAll v w
all_same v w e = subst (HasAll v) (sym e) (all_refl v)

pub all_holding : (v w : View) (j : ℕ) → w ≡ holding v j → HasAll v w
all_holding v w j e = subst (HasAll v) (sym e) (record { truths = refl; seen = on_refl v.seen; done = on_refl v.done; halted = λ h. h })

all_found : (v w : View) (n : ℕ) → w ≡ having_found n v → HasAll v w
all_found v w n e = subst (HasAll v) (sym e) (record { truths = refl; seen = on_refl v.seen; done = on_refl v.done; halted = λ h. h })

all_seen : (v w : View) (j n : ℕ) → w ≡ having_found n (having_seen v j) → HasAll v w
all_seen v w j n e = subst (HasAll v) (sym e) (record { truths = refl; seen = (j ∷ [], refl); done = on_refl v.done; halted = λ h. h })

pub all_done : (v w : View) (j : ℕ) → w ≡ having_done v j → HasAll v w
all_done v w j e = subst (HasAll v) (sym e) (record { truths = refl; seen = (j ∷ [], refl); done = (j ∷ [], refl); halted = λ h. h })

pub all_looked : (v w : View) (j n : ℕ) (l : Look) → (IsVerdict l → w ≡ having_found n (having_seen v j)) → (¬ IsVerdict l → w ≡ having_found n v) → HasAll v w
all_looked v w j n Open seen same = all_found v w n (same (λ (u : IsVerdict Open). ⊎_elim (λ (e : Open ≡ Valid). absurd (cc)) (λ (e : Open ≡ Invalid). absurd (cc)) u))
all_looked v w j n Taken seen same = all_found v w n (same (λ (u : IsVerdict Taken). ⊎_elim (λ (e : Taken ≡ Valid). absurd (cc)) (λ (e : Taken ≡ Invalid). absurd (cc)) u))
all_looked v w j n Valid seen same = all_seen v w j n (seen (inl refl))
all_looked v w j n Invalid seen same = all_seen v w j n (seen (inr refl))

pub keeps_all : (s t : SeatValue) → t.board ≡ s.board → HasAll s.view t.view → Keeps s t
keeps_all s t of h = record { board = of; view = h }

-- a seat that keeps all is free, or one of the board, unchanged
pub ruleset frees = (keeps_trans, free_kept)

pub ruleset sits = (keeps_trans, sits_kept)
