-- Folders of a list, of which one is read at a time.
use Rattle.std.proofs.Common.{◌≡◌, ◌<◌, ◌+◌, ◌∙◌, inl, inr, IfSome, IfErr, IfOk, Result, Ok, Err, List, [], ◌∷◌, ◌++◌, ℕ, zero, suc, true, add-one, ap, append-nil, append_assoc, arith, get_or, length, map, refl, slice_get, slice_set, string_bytes, subst, sym, take}
use Rattle.std.specs.List.{AllZip}
use Rattle.failure.specs.declared.failure.Failure.{Failure}
use Rattle.failure.specs.declared.failure.Failure.TheVariants as failure
use Rattle.update.specs.Causes.{HaveFailed, IsCauseToRead, SomeFailed}
use Rattle.update.specs.Opened.{IsOpened}
use Rattle.lookups.specs.Lookups.{IsPart}
use Rattle.lookups.proofs.Reading.{part_before, part_still}
use Rattle.folder.proofs.Sameness.{same_refl, same_trans}
use Rattle.update.specs.Same.{IsSame}
use Rattle.update.specs.World.{Mirror}
use Rattle.update.specs.declared.start.Opened.{Opened}

-- ---- folders that stay what they were

pub same_one : (m : Mirror) → IsSame m m
same_one m = record { metadata = same_refl m.metadata; targets = same_refl m.targets }

pub same_all : (ms : List Mirror) → AllZip IsSame ms ms
same_all [] = tt
same_all (m ∷ ms) = (same_one m, same_all ms)

pub same_then : (a b c : List Mirror) → AllZip IsSame a b → AllZip IsSame b c → AllZip IsSame a c
same_then [] [] [] h k = tt
same_then [] [] (o ∷ c) h k = absurd k
same_then [] (n ∷ b) c h k = absurd h
same_then (m ∷ a) [] c h k = absurd h
same_then (m ∷ a) (n ∷ b) [] h k = absurd k
same_then (m ∷ a) (n ∷ b) (o ∷ c) h k = (record { metadata = same_trans _ _ _ h.0.metadata k.0.metadata; targets = same_trans _ _ _ h.0.targets k.0.targets }, same_then a b c h.1 k.1)

-- ---- one of a list

module _ {F : Type 0} (mirror : F → Mirror) where
  pub set_same : (fs : List F) (k : ℕ) (d f : F) → d ≡ get_or fs k d → AllZip IsSame (mirror d ∷ []) (mirror f ∷ [])
      → AllZip IsSame (map mirror fs) (map mirror (slice_set fs k f))
  set_same [] k d f is h = tt
  set_same (x ∷ xs) zero d f is h = (subst (λ y. IsSame (mirror y) (mirror f)) is h.0, same_all (map mirror xs))
  set_same (x ∷ xs) (suc k) d f is h = (same_one (mirror x), set_same xs k d f is h)

  pub set_failed : (fs : List F) (k : ℕ) (d f : F) → k < length fs → d ≡ get_or fs k d → SomeFailed (mirror d ∷ []) (mirror f ∷ [])
      → SomeFailed (map mirror fs) (map mirror (slice_set fs k f))
  set_failed [] k d f lt is h = let no : ⊥ = omega arith in absurd no
  set_failed (x ∷ xs) zero d f lt is (inl h) = inl (subst (λ y. HaveFailed (mirror y) (mirror f)) is h)
  set_failed (x ∷ xs) zero d f lt is (inr h) = absurd h
  set_failed (x ∷ xs) (suc k) d f lt is h = inr (set_failed xs k d f (omega arith) is h)

  pub set_cause : (fs : List F) (k : ℕ) (d f : F) (e : Failure) → k < length fs → d ≡ get_or fs k d → IsCauseToRead (mirror d ∷ []) (mirror f ∷ []) e
      → IsCauseToRead (map mirror fs) (map mirror (slice_set fs k f)) e
  set_cause fs k d f failure.Words lt is h = absurd h
  set_cause fs k d f failure.Now lt is h = absurd h
  set_cause fs k d f failure.State lt is h = absurd h
  set_cause fs k d f (failure.Script line) lt is h = absurd h
  set_cause fs k d f failure.Input lt is h = absurd h
  set_cause fs k d f failure.Folder lt is h = set_failed fs k d f lt is h
  set_cause fs k d f failure.Clock lt is h = absurd h
  set_cause fs k d f failure.Output lt is h = absurd h
  set_cause fs k d f failure.Memory lt is h = tt

  pub set_cause_in : {A : Type 0} (fs : List F) (k : ℕ) (d f : F) (r : Result A Failure) → k < length fs → d ≡ get_or fs k d → IfErr r (IsCauseToRead (mirror d ∷ []) (mirror f ∷ []))
      → IfErr r (IsCauseToRead (map mirror fs) (map mirror (slice_set fs k f)))
  set_cause_in fs k d f (Ok x) lt is h = tt
  set_cause_in fs k d f (Err e) lt is h = set_cause fs k d f e lt is h

  opened_get : (fs : List F) (k : ℕ) (d : F) (o : Opened) → k < length fs → d ≡ get_or fs k d → IsOpened (mirror d) o
      → IfSome (slice_get (map mirror fs) k) (λ m. IsOpened m o)
  opened_get [] k d o lt is h = let no : ⊥ = omega arith in absurd no
  opened_get (x ∷ xs) zero d o lt is h = subst (λ y. IsOpened (mirror y) o) is h
  opened_get (x ∷ xs) (suc k) d o lt is h = opened_get xs k d o (omega arith) is h

  pub opened_in : (fs : List F) (k : ℕ) (d : F) (r : Result Opened Failure) → k < length fs → d ≡ get_or fs k d → IfOk r (IsOpened (mirror d))
      → IfOk r (λ o. IfSome (slice_get (map mirror fs) k) (λ m. IsOpened m o))
  opened_in fs k d (Ok o) lt is h = opened_get fs k d o lt is h
  opened_in fs k d (Err e) lt is h = tt

  pub same_length : (fs gs : List F) → AllZip IsSame (map mirror fs) (map mirror gs) → length gs ≡ length fs
  same_length [] [] h = refl
  same_length [] (y ∷ ys) h = absurd h
  same_length (x ∷ xs) [] h = absurd h
  same_length (x ∷ xs) (y ∷ ys) h = ap suc (same_length xs ys h.1)

  -- the folder behind those that are done
  nth_below : (done todo : List Mirror) (m : Mirror) (fs : List F) (k : ℕ) → AllZip IsSame (done ++ m ∷ todo) (map mirror fs) → k ≡ length done → k < length fs
  nth_below [] todo m [] k h is = absurd h
  nth_below [] todo m (x ∷ xs) k h is = omega arith
  nth_below (n ∷ done) todo m [] k h is = absurd h
  nth_below (n ∷ done) todo m (x ∷ xs) zero h is = omega arith
  nth_below (n ∷ done) todo m (x ∷ xs) (suc k) h is = let less = nth_below done todo m xs k h.1 (omega arith) in omega arith

  nth : (done todo : List Mirror) (m : Mirror) (fs : List F) (k : ℕ) (d : F) → AllZip IsSame (done ++ m ∷ todo) (map mirror fs) → k ≡ length done
      → IsSame m (mirror (get_or fs k d))
  nth [] todo m [] k d h is = absurd h
  nth [] todo m (x ∷ xs) zero d h is = h.0
  nth [] todo m (x ∷ xs) (suc k) d h is = let no : ⊥ = omega arith in absurd no
  nth (n ∷ done) todo m [] k d h is = absurd h
  nth (n ∷ done) todo m (x ∷ xs) zero d h is = let no : ⊥ = omega arith in absurd no
  nth (n ∷ done) todo m (x ∷ xs) (suc k) d h is = nth done todo m xs k d h.1 (omega arith)

-- ---- repositories that were opened

pub opened_before : (m n : Mirror) (o : Opened) → IsSame m n → IsOpened n o → IsOpened m o
opened_before m n o same is = record {
  metadata = part_before m.metadata n.metadata o.metadata same.metadata is.metadata;
  names = ap (λ l. l (map string_bytes o.names.items)) (sym same.targets.lists) ∙ is.names;
}

opened_after : (m n : Mirror) (o : Opened) → IsSame m n → IsOpened m o → IsOpened n o
opened_after m n o same is = record {
  metadata = part_still m.metadata n.metadata o.metadata same.metadata is.metadata;
  names = ap (λ l. l (map string_bytes o.names.items)) same.targets.lists ∙ is.names;
}

pub all_opened_after : (ms ns : List Mirror) (os : List Opened) → AllZip IsSame ms ns → AllZip IsOpened ms os → AllZip IsOpened ns os
all_opened_after [] [] [] h k = tt
all_opened_after [] [] (o ∷ os) h k = absurd k
all_opened_after [] (n ∷ ns) os h k = absurd h
all_opened_after (m ∷ ms) [] os h k = absurd h
all_opened_after (m ∷ ms) (n ∷ ns) [] h k = absurd k
all_opened_after (m ∷ ms) (n ∷ ns) (o ∷ os) h k = (opened_after m n o h.0 k.0, all_opened_after ms ns os h.1 k.1)

pub open_more : {F : Type 0} (mirror : F → Mirror) (ms : List Mirror) (fs : List F) (k : ℕ) (all : List Opened) (o : Opened) → AllZip IsSame ms (map mirror fs) → k < length fs
    → IfSome (slice_get (map mirror fs) k) (λ m. IsOpened m o) → AllZip IsOpened (take k ms) all → AllZip IsOpened (take (k + 1) ms) (all ++ o ∷ [])
open_more mirror [] [] k all o h lt is so = let no : ⊥ = omega arith in absurd no
open_more mirror [] (x ∷ xs) k all o h lt is so = absurd h
open_more mirror (m ∷ ms) [] k all o h lt is so = absurd h
open_more mirror (m ∷ ms) (x ∷ xs) zero [] o h lt is so = (opened_before m (mirror x) o h.0 is, tt)
open_more mirror (m ∷ ms) (x ∷ xs) zero (a ∷ all) o h lt is so = absurd so
open_more mirror (m ∷ ms) (x ∷ xs) (suc k) [] o h lt is so = absurd so
open_more mirror (m ∷ ms) (x ∷ xs) (suc k) (a ∷ all) o h lt is so = subst (λ j. AllZip IsOpened (take j (m ∷ ms)) (a ∷ all ++ o ∷ [])) (sym (add-one (suc k)))
    (so.0, subst (λ j. AllZip IsOpened (take j ms) (all ++ o ∷ [])) (add-one k) (open_more mirror ms xs k all o h.1 (omega arith) is so.1))

pub opened_result : (m : Mirror) (r : Result Opened Failure) → IfOk r (λ o. IsPart m.metadata o.metadata)
    → IfOk r (λ o. m.targets.lists (map string_bytes o.names.items) ≡ true) → IfOk r (IsOpened m)
opened_result m (Ok o) metadata names = record { metadata = metadata; names = names }
opened_result m (Err e) metadata names = tt

-- ---- the repositories so far, and those to come, of which the first one is next

record IsNext (todo : List Mirror) (one : Opened) (rest : List Opened) : Type 0 where
  mirror : Mirror
  more : List Mirror
  is : todo ≡ mirror ∷ more
  opened : IsOpened mirror one
  others : AllZip IsOpened more rest

next : (todo : List Mirror) (items rest : List Opened) (one : Opened) → AllZip IsOpened todo items → items ≡ one ∷ rest → IsNext todo one rest
next todo items rest one h is = first todo (subst (AllZip IsOpened todo) is h)
  where
    first : (ms : List Mirror) → AllZip IsOpened ms (one ∷ rest) → IsNext ms one rest
    first [] h = absurd h
    first (m ∷ ms) h = record { mirror = m; more = ms; is = refl; opened = h.0; others = h.1 }

-- the next one is now at place `k`
pub record IsTurn (ms done : List Mirror) (one : Opened) (rest : List Opened) (cur : Mirror) : Type 0 where
  pub next : Mirror
  pub more : List Mirror
  pub is : ms ≡ (done ++ next ∷ []) ++ more
  pub opened : IsOpened next one
  pub others : AllZip IsOpened more rest
  pub same : IsSame next cur

module _ {F : Type 0} (mirror : F → Mirror) (ms done todo : List Mirror) (fs : List F) (k : ℕ) (items rest : List Opened) (one : Opened)
    (all : ms ≡ done ++ todo) (sames : AllZip IsSame ms (map mirror fs)) (opened : AllZip IsOpened todo items) (is : items ≡ one ∷ rest) (at : k ≡ length done) where
  there : (n : IsNext todo one rest) → AllZip IsSame (done ++ n.mirror ∷ n.more) (map mirror fs)
  there n = subst (λ l. AllZip IsSame l (map mirror fs)) (all ∙ ap (λ l. done ++ l) n.is) sames

  pub turn_below : k < length fs
  turn_below = let n = next todo items rest one opened is in nth_below mirror done n.more n.mirror fs k (there n) at

  pub turn : (d : F) → d ≡ get_or fs k d → IsTurn ms done one rest (mirror d)
  turn d now = let n = next todo items rest one opened is in record {
    next = n.mirror;
    more = n.more;
    is = all ∙ ap (λ l. done ++ l) n.is ∙ sym (append_assoc done (n.mirror ∷ []) n.more);
    opened = n.opened;
    others = n.others;
    same = subst (λ x. IsSame n.mirror (mirror x)) (sym now) (nth mirror done n.more n.mirror fs k d (there n) at);
  }

pub none_left : {A : Type 0} (xs : List A) → length xs ≡ 0 → xs ≡ []
none_left [] h = refl
none_left (x ∷ xs) h = let no : ⊥ = omega arith in absurd no

-- all is done where none is left
pub all_done : (ms done todo : List Mirror) (items : List Opened) → ms ≡ done ++ todo → AllZip IsOpened todo items → items ≡ [] → done ≡ ms
all_done ms done [] items all h is = sym (all ∙ append-nil done)
all_done ms done (m ∷ todo) items all h is = absurd (subst (AllZip IsOpened (m ∷ todo)) is h)
