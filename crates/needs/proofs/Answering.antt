-- What the laws say of a result.
use Rattle.std.proofs.Common.{◌≡◌, ℕ, List, All, true, false, Option, Some, None, is_some, option_map, Result, Ok, Err, IfOk, String, Vec, Global, refl, sym, subst}
use Rattle.std.proofs.lemmas.List.Elements.{All-from_recursion}
use Rattle.std.specs.BTreeMap.{BTreeMap, get_by_text}
use Rattle.examine.specs.Checks.{file_in}
use Rattle.rolechain.specs.Advance.{State}
use Rattle.cycle.specs.Workflow.{Course, Request, course}
use Rattle.needs.specs.Laws.{AreAbsent, HasEnough, IsCourseOf, IsSettled, are_optional}
use Rattle.needs.specs.Needs.{Names, Need, is_in, missing_metadata, needs}
use Rattle.needs.proofs.Laws.{are_absent, gone_metadata, has_enough}
use Rattle.needs.proofs.Staying.{is_settled, is_settled_by}

-- what holds of a list holds of the result that is this list
pub if_ok : {A E : Type 0} (r : Result (Vec Need A) E) (P : List Need → Type 0) (all : List Need) → P all → IfOk r (λ v. v.items ≡ all) → IfOk r (λ v. P v.items)
if_ok (Ok v) P all p is = subst P (sym is) p
if_ok (Err e) P all p is = tt

some-map : {A B : Type 0} (h : A → B) (o : Option A) → is_some o ≡ is_some (option_map h o)
some-map h None = refl
some-map h (Some x) = refl

same_names : (m : BTreeMap (String Global) (Vec ℕ Global)) (name : List ℕ) → is_in m name ≡ is_some (file_in m name)
same_names m name = some-map (λ v. v.items) (get_by_text m name)

module _ (r : Request) (before : State) (c : Course) (m : BTreeMap (String Global) (Vec ℕ Global)) (targets : Names) (is : IsCourseOf r before c (file_in m)) where
  -- the same of these values
  carried : (P : State → Course → Type 0) → P r.trusted (course r (file_in m)) → P before c
  carried P p = subst (λ s. P s c) (sym is.begun) (subst (P r.trusted) (sym is.same) p)

  pub absent-here : AreAbsent (is_in m) targets (needs before.root.reading c (is_in m) targets)
  absent-here = carried (λ s c. AreAbsent (is_in m) targets (needs s.root.reading c (is_in m) targets)) (are_absent r (file_in m) (is_in m) targets (same_names m))

  pub enough-here : are_optional (needs before.root.reading c (is_in m) targets) ≡ true → HasEnough targets c
  enough-here = carried (λ s c. are_optional (needs s.root.reading c (is_in m) targets) ≡ true → HasEnough targets c) (has_enough r (file_in m) (is_in m) targets (same_names m))

  pub settled-here : IsSettled r (file_in m) (needs before.root.reading c (is_in m) targets)
  settled-here = carried (λ s c. IsSettled r (file_in m) (needs s.root.reading c (is_in m) targets)) (is_settled r (file_in m) (is_in m) (same_names m) targets)

-- ---- the metadata files alone

module _ (r : Request) (m : BTreeMap (String Global) (Vec ℕ Global)) where
  abbrev lacking : List Need
  lacking = missing_metadata r.trusted.root.reading (course r (file_in m)) (is_in m)

  -- none of them is there
  pub metadata_absent : All (λ n. is_in m n.name ≡ false) lacking
  metadata_absent = All-from_recursion (λ n. is_in m n.name ≡ false) lacking (gone_metadata r (file_in m) (is_in m) (same_names m))

  -- no other files change the course
  pub metadata_settled : IsSettled r (file_in m) lacking
  metadata_settled = is_settled_by r (file_in m) (is_in m) (same_names m)
