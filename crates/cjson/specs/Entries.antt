-- A list of entries as a former of its values.
use Rattle.std.specs.Prelude.{◌≡◌, List, [], ◌∷◌, map}
use mathlib.Core.Path.{refl, sym, ap}
use mathlib.Core.Former.{Former, this, const, pair, list, children}
use base.Stored.{code_map, coded×, coded_list, gcons}
use denote.RattleType.{RattleType}
use denote.HolePlaces.{Recodes}
use denote.Hole.Carrier.{listed}
use Rattle.std.specs.Map.{keys_of, values_of}

-- a key beside one of g's values
abbrev pub entry : Former {0} → Type 0 → Former {0}
entry g K = pair (const K) g

-- the entry, with h applied to its value
abbrev pub on_value : {K X Y : Type 0} → (X → Y) → K × X → K × Y
on_value h p = (p.0, h p.1)

pub values_listed : (K X : Type 0) (es : List (K × X)) → listed _ (children (list (entry this K)) X es) ≡ values_of es
values_listed K X [] = refl
values_listed K X (e ∷ es) = ap (λ l. e.1 ∷ l) (values_listed K X es)

pub keys_on_values : {K X Y : Type 0} (h : X → Y) (es : List (K × X)) → keys_of (map (on_value h) es) ≡ keys_of es
keys_on_values h [] = refl
keys_on_values h (e ∷ es) = ap (λ l. e.0 ∷ l) (keys_on_values h es)

pub entries_recoded : (K R R' : RattleType) (h : R.Denot → R'.Denot) → Recodes R R' h → (es : List (K.Denot × R.Denot))
    → (coded_list (coded× K.coded R'.coded)).code (map (on_value h) es) ≡ (coded_list (coded× K.coded R.coded)).code es
entries_recoded K R R' h e es = sym (code_map (coded× K.coded R.coded).code (coded× K.coded R'.coded).code (on_value h) (λ x i. gcons (K.coded.code x.0) (sym (e x.1) i)) es)
