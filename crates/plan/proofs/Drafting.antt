-- One more check in a draft.
use Rattle.std.proofs.Common.{◌≡◌, ◌∷◌, ◌++◌, ◌∙◌, ℕ, List, [], All, false, Option, Some, None, length, sym, ap, subst, refl, arith}
use Rattle.std.specs.Option.{is_some}
use Rattle.std.proofs.lemmas.Bool.{true≢false}
use Rattle.std.proofs.lemmas.List.{length-map, map-append}
use Rattle.std.proofs.lemmas.List.Elements.{All-append}
use Rattle.std.specs.BTreeMap.{BTreeMap, Updates}
use Rattle.std.specs.Ordering.{nat_cmp}
use Rattle.std.specs.Cmp.Lexicographic.{slice_cmp}
use Rattle.plan.specs.Questions.{IsIndex, at, mark, IsWhole, question_in, questions_in, IsDraft, Grows}
use Rattle.plan.specs.declared.draft.Draft.{Draft}
use Rattle.plan.specs.declared.document.Document.{Document}
use Rattle.plan.specs.declared.plan.Planned.{Planned}
use Rattle.plan.proofs.Indexes.{index_more}

only_one : {A : Type 0} (P : A → Type 0) (x : A) → P x → All P (x ∷ [])
only_one P x one k d below = let e : k ≡ 0 = omega arith in rw e one

pub whole_more : (docs : List Document) (old new : List Planned) (p : Planned) → new ≡ old ++ p ∷ [] → All (IsWhole docs) old → IsWhole docs p → All (IsWhole docs) new
whole_more docs old new p is was one = subst (All (IsWhole docs)) (sym is) (All-append (IsWhole docs) old (p ∷ []) was (only_one (IsWhole docs) p one))

none_of : {A : Type 0} (o : Option A) → is_some o ≡ false → o ≡ None
none_of None h = refl
none_of (Some x) h = absurd (true≢false h)

pub indexed_more : (docs : List Document) (old new : List Planned) (p : Planned) (m n : BTreeMap (List ℕ) ℕ) (k : List ℕ) (j : ℕ) → new ≡ old ++ p ∷ []
    → IsIndex (questions_in docs old) m.entries → k ≡ mark (question_in docs p) → is_some (at m.entries k) ≡ false → Updates (slice_cmp nat_cmp) m n k (Some j) → j ≡ length old
    → IsIndex (questions_in docs new) n.entries
indexed_more docs old new p m n k j is was key free put number =
    let new_key : at m.entries (mark (question_in docs p)) ≡ None = ap (at m.entries) (sym key) ∙ none_of _ free in
    let place : j ≡ length (questions_in docs old) = number ∙ sym (length-map old (question_in docs)) in
    let here : Updates (slice_cmp nat_cmp) m n (mark (question_in docs p)) (Some (length (questions_in docs old))) =
    subst (λ q. Updates (slice_cmp nat_cmp) m n q (Some (length (questions_in docs old)))) key (subst (λ i. Updates (slice_cmp nat_cmp) m n k (Some i)) place put) in
    let more : IsIndex (questions_in docs old ++ question_in docs p ∷ []) n.entries = index_more (questions_in docs old) (question_in docs p) m n was new_key here in
    subst (λ qs. IsIndex qs n.entries) (sym (ap (questions_in docs) is ∙ map-append (question_in docs) old (p ∷ []))) more

-- ---- steps of a draft

pub grows_none : (d : Draft) → IsDraft d → Grows d d
grows_none d is = record { documents = refl; most = refl; draft = is }

pub grows_on : (d e f : Draft) → Grows d e → Grows e f → Grows d f
grows_on d e f x y = record { documents = y.documents ∙ x.documents; most = y.most ∙ x.most; draft = y.draft }
