-- `Sorted` as a type that may hold the type that holds it. Its value is the list of its members.
use mathlib.Core.Path.{◌≡◌, refl, sym, subst}
use mathlib.Core.List.{List, [], ◌∷◌}
use mathlib.Core.Former.{Former, this, list, via, children}
use denote.RattleType.{RattleType}
use denote.HoleLaws.{Alike}
use denote.HolePlaces.{Recodes, struct_places, laid}
use denote.Hole.Carrier.{listed}
use denote.Hole.Fix.{over}
use denote.Param.Weighed.{Weighed, w_const, w_pair, w_list}
use denote.Model.Placed.{view_places}
use denote.Struct.Tuple.{Tuple, tuple_type}
use Rattle.std.specs.Prelude.{String}
use Rattle.std.specs.formers.vec.Vec as vec
use Rattle.std.specs.declared.alloc.Global.{Global}
use Rattle.std.specs.contracts.alloc.Global as heap
use Rattle.cjson.specs.Names.{name_row}
use Rattle.std.specs.contracts.impls.GlobalAllocator.TheImpl.{ghosts}
use Rattle.std.specs.List.Sorted.{IsStrictlySortedBy, IsStrictlySortedBy-prop}
use Rattle.std.specs.String.{string_cmp}
use Rattle.cjson.specs.Entries.{entry, on_value, values_listed, keys_on_values, entries_recoded}
use Rattle.std.specs.Map.{values_of}
use Rattle.cjson.specs.declared.sorted.Sorted.TheInside.{Inside}
use Rattle.cjson.specs.declared.sorted.Sorted.TheView.{view, invariant}
use Rattle.cjson.specs.contracts.sorted.Sorted as C
use Rattle.cjson.specs.contracts.sorted.Sorted.TheInside as I

abbrev pub the_former : Former {0} → Former {0}
the_former g = list (entry g (String Global))

abbrev pub the_weighed : {g : Former {0}} → Weighed g → Weighed (the_former g)
the_weighed w = w_list (w_pair (w_const (String Global)) w)

pub the_empty : List (String Global × ⊥)
the_empty = []

abbrev pub the_items : (X : Type 0) → List (String Global × X) → List X
the_items X es = values_of es

pub the_items_listed : (X : Type 0) (es : List (String Global × X)) → listed _ (children (the_former this) X es) ≡ the_items X es
the_items_listed X es = values_listed (String Global) X es

abbrev fields : Former {0}
fields = via (vec.the_former (entry this (String Global)) Global) Inside (λ X a. a.entries) (λ X v. record { entries = v }) (λ X a. refl) (λ X v. refl)

module _ (R S : RattleType) (h : R.Denot → S.Denot) where
  pair_places : Alike R S h → Alike (Tuple (name_row ∷ R ∷ [])) (Tuple (name_row ∷ S ∷ [])) (on_value h)
  pair_places a = struct_places (tuple_type (name_row ∷ R ∷ [])) (tuple_type (name_row ∷ S ∷ [])) ((λ n. n), (h, tt)) (on_value h) (λ d. refl) refl ((refl, (λ n. refl, λ n. refl)), (laid _ _ _ a, tt))

  pub the_places : Alike R S h → Alike (C.the_row R) (C.the_row S) ((the_former this).map R.Denot S.Denot h)
  the_places a = view_places fields (the_former this) view (λ X Y k u. refl) (λ X u. refl) R.Denot S.Denot h (C.the_row R).coded (C.the_row S).coded
      (invariant R.Denot) (invariant S.Denot) (λ u. IsStrictlySortedBy-prop string_cmp _) (λ u. IsStrictlySortedBy-prop string_cmp _)
      (λ u. subst (IsStrictlySortedBy string_cmp) (sym (keys_on_values h u.entries.items))) (λ u. subst (IsStrictlySortedBy string_cmp) (keys_on_values h u.entries.items))
      (over (I.the_row R)) (over (I.the_row S))
      (struct_places (I.the_type R) (I.the_type S) (vec.mapped (on_value h), tt) _ (λ d. refl) refl (laid _ _ _ (vec.the_places heap.the_row ghosts (Tuple (name_row ∷ R ∷ [])) (Tuple (name_row ∷ S ∷ [])) (on_value h) (pair_places a)), tt))

  pub the_codes_placed : Recodes R S h → Recodes (C.the_row R) (C.the_row S) ((the_former this).map R.Denot S.Denot h)
  the_codes_placed e d = entries_recoded name_row R S h e d
