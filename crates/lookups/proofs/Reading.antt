-- What was read of a folder, one file after another.
use Rattle.std.proofs.Common.{◌≡◌, ◌<◌, ◌≤◌, ◌+◌, ◌⊎◌, inl, inr, arith, length, get_or, ℕ, Bool, true, false, not, ◌&&◌, is_some, Option, Some, None, IfSome, String, Vec, Global, List, [], ◌∷◌, ◌++◌, ◌||◌, bytes_eq, string_bytes, map, refl, sym, ap, ◌∙◌, subst}
use Rattle.std.specs.BTreeMap.{BTreeMap, get_by_text}
use Rattle.std.proofs.lemmas.Slice.Eq.{bytes_eq-Decides}
use Rattle.std.proofs.lemmas.Bool.{cases_lt}
use Rattle.std.proofs.lemmas.List.{get_or_default, map-append}
use Rattle.std.proofs.lemmas.List.Folds.{list_any-append}
use Rattle.cycle.specs.Looked.{most_looked_at}
use Rattle.folder.specs.Folders.{Giving, IsSameFolder}
use Rattle.folder.specs.Seen.{IsStartOf, is_named}
use Rattle.lookups.specs.Lookups.{Grows, HasNames, HasNone, IsDone, IsPart, IsReadOf, Puts, is_listed, is_read}
use Rattle.lookups.specs.declared.metadata.Metadata.{Metadata}
use Rattle.needs.specs.declared.need.Need.{Need}

-- ---- what holds of a map that is the same but for one name

there_or : {X : Type 0} (P : X → Type 0) (b : Bool) (x : X) (old new : Option X) → (b ≡ true → new ≡ Some x) → (b ≡ false → new ≡ old) → (b ≡ true → P x) → IfSome old P → IfSome new P
there_or P true x old new is other this before = subst (λ o. IfSome o P) (sym (is refl)) (this refl)
there_or P false x old new is other this before = subst (λ o. IfSome o P) (sym (other refl)) before

kept_or : {X : Type 0} (b : Bool) (old new : Option X) → (b ≡ true → old ≡ None) → (b ≡ false → new ≡ old) → IfSome old (λ v. new ≡ Some v)
kept_or true None new gone other = tt
kept_or true (Some v) new gone other = absurd (cc (gone refl))
kept_or false None new gone other = tt
kept_or false (Some v) new gone other = other refl

none_of : {X : Type 0} (o : Option X) → is_some o ≡ false → o ≡ None
none_of None h = refl
none_of (Some x) h = absurd (cc)

is_due_so : (a b : Bool) → (a && not b) ≡ true → (a ≡ true) × (b ≡ false)
is_due_so true true h = absurd (cc)
is_due_so true false h = (refl, refl)
is_due_so false b h = absurd (cc)

-- ---- a folder by another meaning that is the same

pub part_still : (a b : Giving) (m : Metadata) → IsSameFolder a b → IsPart a m → IsPart b m
part_still a b m same is = record {
  names = ap (λ l. l (map string_bytes m.names.items)) same.lists ∙ is.names;
  listed = is.listed;
  read = λ name. as_held name (get_by_text m.repo.metadata name) (is.read name);
}
  where
    as_held : (name : List ℕ) (o : Option (Vec ℕ Global)) → IfSome o (λ v. IsReadOf a m name v.items) → IfSome o (λ v. IsReadOf b m name v.items)
    as_held name None h = tt
    as_held name (Some v) h = record { listed = h.listed; start = subst (λ h. IsStartOf (h name) most_looked_at v.items) (sym same.holds) h.start }

pub part_before : (a b : Giving) (m : Metadata) → IsSameFolder a b → IsPart b m → IsPart a m
part_before a b m same is = record {
  names = ap (λ l. l (map string_bytes m.names.items)) (sym same.lists) ∙ is.names;
  listed = is.listed;
  read = λ name. as_held name (get_by_text m.repo.metadata name) (is.read name);
}
  where
    as_held : (name : List ℕ) (o : Option (Vec ℕ Global)) → IfSome o (λ v. IsReadOf b m name v.items) → IfSome o (λ v. IsReadOf a m name v.items)
    as_held name None h = tt
    as_held name (Some v) h = record { listed = h.listed; start = subst (λ h. IsStartOf (h name) most_looked_at v.items) same.holds h.start }

-- ---- growth

pub grows_none : (m : Metadata) → Grows m m
grows_none m = record { names = refl; listed = refl; read = λ name. itself (get_by_text m.repo.metadata name) }
  where
    itself : (o : Option (Vec ℕ Global)) → IfSome o (λ v. o ≡ Some v)
    itself None = tt
    itself (Some v) = refl

pub grows_on : (a b c : Metadata) → Grows a b → Grows b c → Grows a c
grows_on a b c p q = record {
  names = q.names ∙ p.names;
  listed = q.listed ∙ p.listed;
  read = λ name. on (get_by_text a.repo.metadata name) (get_by_text b.repo.metadata name) (get_by_text c.repo.metadata name) (p.read name) (q.read name);
}
  where
    on : (x y z : Option (Vec ℕ Global)) → IfSome x (λ v. y ≡ Some v) → IfSome y (λ v. z ≡ Some v) → IfSome x (λ v. z ≡ Some v)
    on None y z p q = tt
    on (Some v) y z p q = subst (λ o. IfSome o (λ w. z ≡ Some w)) p q

same_listed : (old new : Metadata) (name : List ℕ) → Grows old new → is_listed new name ≡ is_listed old name
same_listed old new name g = ap (λ l. is_listed (record old { listed = l }) name) g.listed

still_read : (old new : Metadata) (name : List ℕ) → Grows old new → is_read old name ≡ true → is_read new name ≡ true
still_read old new name g = on (get_by_text old.repo.metadata name) (get_by_text new.repo.metadata name) (g.read name)
  where
    on : (x y : Option (Vec ℕ Global)) → IfSome x (λ v. y ≡ Some v) → is_some x ≡ true → is_some y ≡ true
    on None y p h = absurd (cc)
    on (Some v) y p h = ap is_some p

pub still_done : (old new : Metadata) (name : List ℕ) → Grows old new → IsDone old name → IsDone new name
still_done old new name g done listed = still_read old new name g (done (sym (same_listed old new name g) ∙ listed))

-- ---- one file more

module _ (g : Giving) (old new : Metadata) (name : List ℕ) (v : Vec ℕ Global) (names : new.names ≡ old.names) (listed : new.listed ≡ old.listed)
    (puts : Puts name v old.repo.metadata new.repo.metadata) (due : (is_listed old name && not (is_read old name)) ≡ true) where
  same : (q : List ℕ) → bytes_eq name q ≡ true → name ≡ q
  same q e = (bytes_eq-Decides name q).0 e

  at : (q : List ℕ) → bytes_eq name q ≡ true → get_by_text new.repo.metadata q ≡ Some v
  at q e = subst (λ n. get_by_text new.repo.metadata n ≡ Some v) (same q e) puts.there

  pub read_grows : Grows old new
  read_grows = record {
    names = names;
    listed = listed;
    read = λ q. kept_or (bytes_eq name q) (get_by_text old.repo.metadata q) (get_by_text new.repo.metadata q)
        (λ e. subst (λ n. get_by_text old.repo.metadata n ≡ None) (same q e) (none_of (get_by_text old.repo.metadata name) (is_due_so _ _ due).1)) (puts.others q);
  }

  pub read_done : IsDone new name
  read_done h = ap is_some puts.there

  as_before : (q bytes : List ℕ) → IsReadOf g old q bytes → IsReadOf g new q bytes
  as_before q bytes h = record { listed = same_listed old new q read_grows ∙ h.listed; start = h.start }

  before : (q : List ℕ) (o : Option (Vec ℕ Global)) → IfSome o (λ w. IsReadOf g old q w.items) → IfSome o (λ w. IsReadOf g new q w.items)
  before q None h = tt
  before q (Some w) h = as_before q w.items h

  pub read_part : IsStartOf (g.holds name) most_looked_at v.items → IsPart g old → IsPart g new
  read_part start is = record {
    names = subst (λ (l : Vec (String Global) Global). g.lists (map string_bytes l.items) ≡ true) (sym names) is.names;
    listed = λ q. ap (λ l. is_some (get_by_text l q)) listed ∙ is.listed q ∙ ap (λ (l : Vec (String Global) Global). is_named (map string_bytes l.items) q) (sym names);
    read = λ q. there_or (λ w. IsReadOf g new q w.items) (bytes_eq name q) v (get_by_text old.repo.metadata q) (get_by_text new.repo.metadata q) (at q) (puts.others q)
        (λ e. subst (λ n. IsReadOf g new n v.items) (same q e) (record { listed = same_listed old new name read_grows ∙ (is_due_so _ _ due).0; start = start }))
        (before q (get_by_text old.repo.metadata q) (is.read q));
  }

-- ---- nothing more

pub none_done : (m : Metadata) (name : List ℕ) → (is_listed m name && not (is_read m name)) ≡ false → IsDone m name
none_done m name h listed = by (is_listed m name) (is_read m name) h listed
  where
    by : (a b : Bool) → (a && not b) ≡ false → a ≡ true → b ≡ true
    by true true h k = refl
    by true false h k = absurd (cc)
    by false b h k = absurd (cc)

pub nothing_read : (g : Giving) (m : Metadata) → g.lists (map string_bytes m.names.items) ≡ true → HasNames m → HasNone m → IsPart g m
nothing_read g m names listed none = record {
  names = names;
  listed = listed;
  read = λ name. empty name (get_by_text m.repo.metadata name) (none name);
}
  where
    empty : (name : List ℕ) (o : Option (Vec ℕ Global)) → o ≡ None → IfSome o (λ v. IsReadOf g m name v.items)
    empty name o is = subst (λ o. IfSome o (λ v. IsReadOf g m name v.items)) (sym is) tt

-- ---- names, one after another

one_of : (done : List (List ℕ)) (p q : List ℕ) → is_named (done ++ p ∷ []) q ≡ (is_named done q || bytes_eq p q)
one_of done p q = list_any-append (λ o. bytes_eq o q) done (p ∷ []) ∙ ap (λ b. is_named done q || b) (or_false (bytes_eq p q))
  where
    or_false : (b : Bool) → (b || false) ≡ b
    or_false true = refl
    or_false false = refl

-- ---- files that are needed, one after another

or_none : (a b : Bool) → (a || b) ≡ false → (a ≡ false) × (b ≡ false)
or_none true b h = absurd (cc)
or_none false b h = (refl, h)

module _ (found more : Bool) (initial old new : Metadata) (before : found ≡ false → old ≡ initial) (here : more ≡ false → new ≡ old) where
  pub none_more : (found || more) ≡ false → new ≡ initial
  none_more h = here (or_none found more h).1 ∙ before (or_none found more h).0

  pub done_more : (all : List Need) (i : ℕ) (item : Need) → i < length all → item ≡ get_or all i item → (found ≡ false → (k : ℕ) (d : Need) → k < i → IsDone initial (get_or all k d).name)
      → IsDone new item.name → (found || more) ≡ false → (k : ℕ) (d : Need) → k < i + 1 → IsDone initial (get_or all k d).name
  done_more all i item inside is was done h k d below = by (cases_lt k i)
    where
      by : (k < i) ⊎ (i ≤ k) → IsDone initial (get_or all k d).name
      by (inl less) = was (or_none found more h).0 k d less
      by (inr at) =
          let same : k ≡ i = omega arith in
          subst (λ n. IsDone initial (get_or all n d).name) (sym same)
          (subst (λ (n : Need). IsDone initial n.name) (is ∙ get_or_default all i item d inside) (subst (λ m. IsDone m item.name) (none_more h) done))

module _ {Y : Type 0} where
  pub one_more_name : (old new : Metadata) (yielded : List (String Y)) (name : String Y) → ((q : List ℕ) → is_named (map string_bytes yielded) q ≡ true → IsDone old q) → Grows old new
      → IsDone new (string_bytes name) → (q : List ℕ) → is_named (map string_bytes (yielded ++ name ∷ [])) q ≡ true → IsDone new q
  one_more_name old new yielded name before grows done q h =
      by (is_named (map string_bytes yielded) q) (bytes_eq (string_bytes name) q) refl refl
      (sym (one_of (map string_bytes yielded) (string_bytes name) q) ∙ ap (λ l. is_named l q) (sym (map-append string_bytes yielded (name ∷ []))) ∙ h)
    where
      by : (a b : Bool) → is_named (map string_bytes yielded) q ≡ a → bytes_eq (string_bytes name) q ≡ b → (a || b) ≡ true → IsDone new q
      by true b is same h = still_done old new q grows (before q is)
      by false true is same h = subst (IsDone new) ((bytes_eq-Decides (string_bytes name) q).0 same) done
      by false false is same h = absurd (cc)
