-- Copies of files, and the targets of which they have the bytes.
use Rattle.std.proofs.Common.{◌≡◌, ◌<◌, ◌≤◌, ◌+◌, ℕ, zero, suc, add-one, arith, get_or, length, List, [], ◌∷◌, ◌++◌, Bool, true, false, ◌&&◌, take, Option, None, Some, Result, Ok, Err, is_ok, IfSome, IsSomeAnd, refl, sym, ◌∙◌, ap, subst}
use Rattle.std.specs.List.{AllZip}
use Rattle.std.specs.Bool.{⊤}
use Rattle.std.proofs.lemmas.List.{take_all}
use Rattle.deleg.specs.declared.accepted.Search.{Search}
use Rattle.meta.specs.Content.{content}
use Rattle.cycle.specs.Workflow.{Fault, Target}
use Rattle.folder.specs.Measures.{measure_of}
use Rattle.folder.specs.declared.measure.Measure.{Measure}
use Rattle.folder.specs.declared.measure.Need.{Need}
use Rattle.measured.specs.Copied.{AreCopiesFor, IsContentOf, IsCopyFor}
use Rattle.measured.specs.Known.{covers, measured_content}
use Rattle.measured.proofs.Checking.{measured_is}

well : (r : Result ⊤ Fault) → is_ok r ≡ true → r ≡ Ok tt
well (Ok fine) h = refl
well (Err fault) h = absurd (cc)

left_of : (a b : Bool) → (a && b) ≡ true → a ≡ true
left_of true b h = refl
left_of false b h = absurd (cc)

right_of : (a b : Bool) → (a && b) ≡ true → b ≡ true
right_of true b h = h
right_of false b h = absurd (cc)

pub fitting : (result : Bool) (need : Need) (t : Target) (m : Measure) (bytes : List ℕ) → result ≡ (covers need t && is_ok (measured_content t m)) → result ≡ true
    → m ≡ measure_of need bytes → IsContentOf t bytes
fitting result need t m bytes is h measure =
    let both = sym is ∙ h in
    sym (measured_is need bytes t (left_of _ _ both)) ∙ ap (measured_content t) (sym measure) ∙ well _ (right_of _ _ both)

-- ---- one copy after another

pub one_copy_more : {K : Type 0} (took : K → List ℕ → Bool) (copies : List (Option K)) (searches : List (Option Search)) (i : ℕ) (c : Option K) (s : Option Search)
    → i < length searches → s ≡ get_or searches i s → AreCopiesFor took copies (take i searches) → IsCopyFor took c s → AreCopiesFor took (copies ++ c ∷ []) (take (i + 1) searches)
one_copy_more took copies [] i c s inside is h one = let no : ⊥ = omega arith in absurd no
one_copy_more took [] (x ∷ xs) zero c s inside is h one = (subst (IsCopyFor took c) is one, tt)
one_copy_more took (d ∷ ds) (x ∷ xs) zero c s inside is h one = absurd h
one_copy_more took [] (x ∷ xs) (suc i) c s inside is h one = absurd h
one_copy_more took (d ∷ ds) (x ∷ xs) (suc i) c s inside is h one = subst (λ j. AreCopiesFor took (d ∷ ds ++ c ∷ []) (take j (x ∷ xs))) (sym (add-one (suc i)))
    (h.0, subst (λ j. AreCopiesFor took (ds ++ c ∷ []) (take j xs)) (add-one i) (one_copy_more took ds xs i c s (omega arith) is h.1 one))

pub all_copied : {K : Type 0} (took : K → List ℕ → Bool) (copies : List (Option K)) (searches : List (Option Search)) (i : ℕ) → length searches ≤ i
    → AreCopiesFor took copies (take i searches) → AreCopiesFor took copies searches
all_copied took copies searches i end h = subst (AreCopiesFor took copies) (take_all i searches end) h
