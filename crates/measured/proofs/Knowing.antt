-- Names and measures that are stored one after the other.
use Rattle.std.proofs.Common.{◌≡◌, List, [], ◌∷◌, ◌++◌, Bool, true, false, ◌||◌, Option, None, Some, is_some, IfSome, ◌<◌, ◌+◌, ℕ, suc, length, slice_index_or, slice_set, inl, inr, All, Result, Ok, Err, OnOk, OnErr, String, string_bytes, map, refl, sym, ◌∙◌, ap, subst, arith}
use Rattle.std.specs.BTreeMap.{get_by_text}
use Rattle.std.specs.Str.{bytes_eq}
use Rattle.std.proofs.lemmas.Slice.Eq.{bytes_eq-Decides}
use Rattle.std.proofs.lemmas.Bool.{cases_eq}
use Rattle.std.proofs.lemmas.List.{get_or-set_same, get_or-set_other, map-append}
use Rattle.std.proofs.lemmas.List.Folds.{list_any-append}
use Rattle.folder.specs.Measures.{IsMeasureOf}
use Rattle.folder.specs.declared.job.Done.{Done}
use Rattle.deleg.specs.declared.accepted.Search.{Search}
use Rattle.measured.specs.Closed.{is_found}
use Rattle.measured.specs.Known.{AreDone, IsKnown, IsSame, IsWanted, Puts, StaysKnown}
use Rattle.measured.specs.declared.early.Share.{Share}
use Rattle.measured.specs.declared.known.Known.{Known}
use Rattle.measured.specs.declared.known.Wanted.{Wanted}

-- a name is there if it was added or was there before
is_there : (is_added : Bool) (old new : Option (Option Wanted)) (value : Option Wanted) (was_there : Bool)
    → (is_added ≡ true → new ≡ Some value) → (is_added ≡ false → new ≡ old) → is_some old ≡ was_there
    → is_some new ≡ (was_there || (is_added || false))
is_there true old new value true added kept e = ap is_some (added refl)
is_there true old new value false added kept e = ap is_some (added refl)
is_there false old new value true added kept e = ap is_some (kept refl) ∙ e
is_there false old new value false added kept e = ap is_some (kept refl) ∙ e

-- what holds of the value added and of the value before holds of the value after
holds_still : (is_added : Bool) (old new : Option (Option Wanted)) (value : Option Wanted) (P : Option Wanted → Type 0)
    → (is_added ≡ true → new ≡ Some value) → (is_added ≡ false → new ≡ old) → (is_added ≡ true → P value) → IfSome old P → IfSome new P
holds_still true old new value P added kept here h = subst (λ o. IfSome o P) (sym (added refl)) (here refl)
holds_still false old new value P added kept here h = subst (λ o. IfSome o P) (sym (kept refl)) h

-- the value of an equal name
pub at_name : (name other : List ℕ) (value : Option Wanted) (old new : Known) → Puts name value old new → bytes_eq name other ≡ true → get_by_text new.files other ≡ Some value
at_name name other value old new puts same = subst (λ n. get_by_text new.files n ≡ Some value) ((bytes_eq-Decides name other).0 same) puts.there

module _ (holds : List ℕ → List ℕ → Bool) (found : List ℕ → Bool) where
  -- one name more
  more : (names : List (List ℕ)) (name : List ℕ) (old new : Known)
      → IsKnown names holds found old → Puts name None old new → IsKnown (names ++ name ∷ []) holds found new
  more names name old new known puts = record {
    named = λ q.
        is_there (bytes_eq name q) (get_by_text old.files q) (get_by_text new.files q) None _ (at_name name q None old new puts) (puts.others q) (known.named q)
        ∙ sym (list_any-append (λ other. bytes_eq other q) names (name ∷ []));
    wanted = λ q.
        holds_still (bytes_eq name q) (get_by_text old.files q) (get_by_text new.files q) None (λ o. IfSome o (IsWanted (found q) (holds q))) (at_name name q None old new puts) (puts.others q) (λ same. tt) (known.wanted q);
  }

  pub one_more : {Y : Type 0} (yielded : List (String Y)) (name : String Y) (old new : Known)
      → IsKnown (map string_bytes yielded) holds found old → Puts (string_bytes name) None old new → IsKnown (map string_bytes (yielded ++ name ∷ [])) holds found new
  one_more yielded name old new known puts = rw (map-append string_bytes yielded (name ∷ [])) (more _ _ old new known puts)

-- ---- a value more

is_there_still : (is_added : Bool) (old new : Option (Option Wanted)) (value : Option Wanted)
    → (is_added ≡ true → new ≡ Some value) → (is_added ≡ false → new ≡ old) → (is_added ≡ true → is_some old ≡ true) → is_some new ≡ is_some old
is_there_still true old new value added kept was = ap is_some (added refl) ∙ sym (was refl)
is_there_still false old new value added kept was = ap is_some (kept refl)

was_there : (name other : List ℕ) (old : Known) → is_some (get_by_text old.files name) ≡ true → bytes_eq name other ≡ true → is_some (get_by_text old.files other) ≡ true
was_there name other old there same = subst (λ n. is_some (get_by_text old.files n) ≡ true) ((bytes_eq-Decides name other).0 same) there

pub names_still : (name : List ℕ) (value : Option Wanted) (old new : Known) → Puts name value old new → is_some (get_by_text old.files name) ≡ true
    → (q : List ℕ) → is_some (get_by_text new.files q) ≡ is_some (get_by_text old.files q)
names_still name value old new puts there q =
    is_there_still (bytes_eq name q) (get_by_text old.files q) (get_by_text new.files q) value (at_name name q value old new puts) (puts.others q) (was_there name q old there)

pub wanted_more : (names : List (List ℕ)) (holds : List ℕ → List ℕ → Bool) (found : List ℕ → Bool) (name : List ℕ) (w : Wanted) (old new : Known)
    → IsKnown names holds found old → Puts name (Some w) old new → is_some (get_by_text old.files name) ≡ true → IsWanted (found name) (holds name) w
    → IsKnown names holds found new
wanted_more names holds found name w old new known puts there is = record {
  named = λ q. names_still name (Some w) old new puts there q ∙ known.named q;
  wanted = λ q.
      holds_still (bytes_eq name q) (get_by_text old.files q) (get_by_text new.files q) (Some w) (λ o. IfSome o (IsWanted (found q) (holds q))) (at_name name q (Some w) old new puts) (puts.others q)
      (λ same. subst (λ n. IsWanted (found n) (holds n) w) ((bytes_eq-Decides name q).0 same) is)
      (known.wanted q);
}

pub same_known : (names : List (List ℕ)) (holds : List ℕ → List ℕ → Bool) (found : List ℕ → Bool) (old new : Known) → IsKnown names holds found old → IsSame old new → IsKnown names holds found new
same_known names holds found old new known same = record {
  named = λ q. ap is_some (same q) ∙ known.named q;
  wanted = λ q. subst (λ o. IfSome o (λ v. IfSome v (IsWanted (found q) (holds q)))) (sym (same q)) (known.wanted q);
}

-- what was found of a file that is wanted
pub was_found : (names : List (List ℕ)) (holds : List ℕ → List ℕ → Bool) (found : List ℕ → Bool) (k : Known) (name : List ℕ) (w : Wanted)
    → IsKnown names holds found k → get_by_text k.files name ≡ Some (Some w) → found name ≡ true
was_found names holds found k name w known is = (subst (λ o. IfSome o (λ v. IfSome v (IsWanted (found name) (holds name)))) is (known.wanted name)).is_found

-- ---- measures that were taken early

-- the next measure, and those after it
pub first_done : (holds : List ℕ → List ℕ → Bool) (all rest : List Done) (d : Done) → all ≡ d ∷ rest → AreDone holds all → IsMeasureOf d.need (holds (string_bytes d.name)) d.measure
first_done holds all rest d is done = (subst (AreDone holds) is done).each 0 d (omega arith)

pub rest_done : (holds : List ℕ → List ℕ → Bool) (all rest : List Done) (d : Done) → all ≡ d ∷ rest → AreDone holds all → AreDone holds rest
rest_done holds all rest d is done = let now = subst (AreDone holds) is done in record { each = λ k e lt. now.each (suc k) e (omega (arith, lt)) }

-- the next share, and those after it
pub first_share : (holds : List ℕ → List ℕ → Bool) (all rest : List Share) (s : Share) → all ≡ s ∷ rest → All (λ (s : Share). AreDone holds s.done.items) all → AreDone holds s.done.items
first_share holds all rest s is done = subst (All (λ (s : Share). AreDone holds s.done.items)) is done 0 s (omega arith)

pub rest_share : (holds : List ℕ → List ℕ → Bool) (all rest : List Share) (s : Share) → all ≡ s ∷ rest → All (λ (s : Share). AreDone holds s.done.items) all → All (λ (s : Share). AreDone holds s.done.items) rest
rest_share holds all rest s is done = λ k e lt. subst (All (λ (s : Share). AreDone holds s.done.items)) is done (suc k) e (omega (arith, lt))

-- one share more
pub one_share : (holds : List ℕ → List ℕ → Bool) (shares : List Share) (at : ℕ) (new : Share) → at < length shares → AreDone holds new.done.items
    → ((i : ℕ) (d : Share) → i < at → AreDone holds (slice_index_or shares i d).done.items)
    → (i : ℕ) (d : Share) → i < at + 1 → AreDone holds (slice_index_or (slice_set shares at new) i d).done.items
one_share holds shares at new in' done before i d lt = elim (cases_eq i at) [
  | inl same ↦ rw same (subst (λ (s : Share). AreDone holds s.done.items) (sym (get_or-set_same shares at new d in')) done)
  | inr other ↦ subst (λ (s : Share). AreDone holds s.done.items) (sym (get_or-set_other shares at i new d other)) (before i d (omega (arith, lt, other)))
]

-- a measure that is stored, or not because out of memory
pub kept : {A E : Type 0} (names : List (List ℕ)) (holds : List ℕ → List ℕ → Bool) (found : List ℕ → Bool) (name : List ℕ) (was w : Wanted) (old new : Known) (r : Result A E)
    → get_by_text old.files name ≡ Some (Some was) → IfSome w.measure (IsMeasureOf w.need (holds name)) → OnOk r (Puts name (Some w) old new) → OnErr r (IsSame old new)
    → IsKnown names holds found old → IsKnown names holds found new
kept names holds found name was w old new (Ok x) is good puts same known =
    wanted_more names holds found name w old new known puts (ap is_some is) (record { is_found = was_found names holds found old name was known is; measure = good })
kept names holds found name was w old new (Err e) is good puts same known = same_known names holds found old new known same

-- ---- a course whose files are copied

-- what the steps leave known, with the values of the course by their names
pub copied_known : (names : List (List ℕ)) (holds later : List ℕ → List ℕ → Bool) (b consistent : Bool) (s searches : List (Option Search)) (begun noted copied read : Known)
    → b ≡ consistent → s ≡ searches → later ≡ holds → IsKnown names holds (is_found b s) begun → StaysKnown names holds (is_found b s) begun noted
    → StaysKnown names holds (is_found consistent searches) noted copied → StaysKnown names later (is_found b s) copied read → IsKnown names holds (is_found consistent searches) read
copied_known names holds later b consistent s searches begun noted copied read same_names same_searches same_holds first note copy last =
    subst (λ h. IsKnown names h (is_found consistent searches) read) same_holds
    (subst (λ f. IsKnown names later f read) same
    (last (subst (λ f. IsKnown names later f copied) (sym same) (subst (λ h. IsKnown names h (is_found consistent searches) copied) (sym same_holds)
    (copy (subst (λ f. IsKnown names holds f noted) same (note first)))))))
  where
    same : is_found b s ≡ is_found consistent searches
    same = ap (λ k. is_found k s) same_names ∙ ap (is_found consistent) same_searches
