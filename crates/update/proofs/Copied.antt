-- Copies that are stored one after another.
use Rattle.std.proofs.Common.{◌≡◌, ◌≢◌, ◌∙◌, ◌<◌, ◌≤◌, ◌+◌, ℕ, zero, suc, Bool, true, false, ◌||◌, ◌&&◌, not, ◌⊎◌, inl, inr, if◌then◌else◌, List, [], ◌∷◌, ◌++◌, length, drop, Option, None, Some, IfSome, IsSomeAnd, Bor, get_or, set, option_map, string_bytes, map, bytes_eq, refl, sym, ap, subst, arith, add-one, append-nil, append_assoc}
use Rattle.std.proofs.Math.Seq.{drop-cons}
use Rattle.std.proofs.lemmas.List.{drop_all, length-append, length-drop, length-map}
use Rattle.std.proofs.lemmas.List.Folds.{list_any-append}
use Rattle.std.proofs.lemmas.Slice.Eq.{bytes_eq-Decides}
use Rattle.std.specs.BTreeSet.{BTreeSet, IsEmpty, contains_text}
use Rattle.std.specs.List.{AllZip, slice_get}
use Rattle.std.specs.Prelude.{String}
use Rattle.std.proofs.lemmas.Option.{slice_get-get_or, slice_get-map, slice_get_read}
use Rattle.std.proofs.lemmas.Map.Text.{text_keys}
use Rattle.copies.specs.Paths.{IsSameAt, is_below}
use Rattle.folder.specs.Folders.{path_below}
use Rattle.cycle.specs.Workflow.{Course, Files, Request, Target, searched, target_of}
use Rattle.cycle.specs.Workflow.{course as course_of}
use Rattle.measured.specs.Copied as course
use Rattle.cycle.specs.declared.verdict.Verdict.{Verdict}
use Rattle.folder.specs.Seen.{is_named}
use Rattle.measured.specs.Copied.{HasContentOf}
use Rattle.update.specs.Copies.{AreCopied, AreFlags, AreStored, IsCopied, IsFlag, IsOfNone, Kept, OutsideKept, Placing, chosen, good_paths, has_place, is_blocked, is_folder_of_one, is_free, is_good_at, may_have_copy, target_for}
use Rattle.update.specs.Stored.{AreCandidates, AreDecided, AreInstalled, AreSomeInstalled, DecidesOne, HasPaths, IsCopyFor, with_stored}
use Rattle.update.specs.declared.installing.Decided.{Decided}

-- ---- one path more

or_false : (b : Bool) → (b || false) ≡ b
or_false true = refl
or_false false = refl

named_more : (done : List (List ℕ)) (p q : List ℕ) → is_named (done ++ p ∷ []) q ≡ (is_named done q || bytes_eq p q)
named_more done p q = list_any-append (λ o. bytes_eq o q) done (p ∷ []) ∙ ap (λ b. is_named done q || b) (or_false (bytes_eq p q))

left_true : (a : Bool) → (a || false) ≡ true → a ≡ true
left_true true h = refl
left_true false h = absurd (cc)

left_false : (a b : Bool) → (a || b) ≡ false → a ≡ false
left_false true b h = absurd (cc)
left_false false b h = refl

right_false : (a b : Bool) → (a || b) ≡ false → b ≡ false
right_false true b h = absurd (cc)
right_false false b h = h

differs : (p q : List ℕ) → bytes_eq p q ≡ false → q ≢ p
differs p q isnt is = let yes : bytes_eq p q ≡ true = (bytes_eq-Decides p q).1 (sym is) in absurd (cc)

-- ---- places below a folder

append_injective : (xs p q : List ℕ) → xs ++ p ≡ xs ++ q → p ≡ q
append_injective [] p q h = h
append_injective (x ∷ xs) p q h = append_injective xs p q (ap (drop 1) h)

below_injective : (into p q : List ℕ) → path_below into p ≡ path_below into q → p ≡ q
below_injective [] p q h = h
below_injective (c ∷ into) p q h = ap (drop 1) (append_injective (c ∷ into) (47 ∷ p) (47 ∷ q) h)

other_place : (into p q : List ℕ) → q ≢ p → path_below into q ≢ path_below into p
other_place into p q isnt is = isnt (below_injective into q p is)

or_left : (a b : Bool) → a ≡ true → (a || b) ≡ true
or_left true b h = refl
or_left false b h = absurd (cc)

or_right : (a b : Bool) → b ≡ true → (a || b) ≡ true
or_right true b h = refl
or_right false b h = h

-- a place that is none of more paths is none of these, and not that of the last one
none_before : (into : List ℕ) (done : List (List ℕ)) (p place : List ℕ) → IsOfNone into (done ++ p ∷ []) place → IsOfNone into done place
none_before into done p place none q named = none q (named_more done p q ∙ or_left (is_named done q) (bytes_eq p q) named)

none_last : (into : List ℕ) (done : List (List ℕ)) (p place : List ℕ) → IsOfNone into (done ++ p ∷ []) place → place ≢ path_below into p
none_last into done p place none = none p (named_more done p p ∙ or_right (is_named done p) (bytes_eq p p) ((bytes_eq-Decides p p).1 refl))

module _ (into state : List ℕ) where
  still_copied : (old new : Kept) (q : List ℕ) (t : Option Target) → IsSameAt (path_below into q) old new → IsSomeAnd t (IsCopied into old q) → IsSomeAnd t (IsCopied into new q)
  still_copied old new q None same h = h
  still_copied old new q (Some t) same h = record { below = h.below; bytes = h.bytes; kept = same h.bytes ∙ h.kept; content = h.content }

  at_path : (found : List ℕ → Option Target) (new : Kept) (p q : List ℕ) → bytes_eq p q ≡ true → IsSomeAnd (found p) (IsCopied into new p) → IsSomeAnd (found q) (IsCopied into new q)
  at_path found new p q is h = subst (λ z. IsSomeAnd (found z) (IsCopied into new z)) ((bytes_eq-Decides p q).0 is) h

  each_more : (found : List ℕ → Option Target) (done : List (List ℕ)) (p q : List ℕ) (old new : Kept) (b : Bool) → bytes_eq p q ≡ b
      → ((other : List ℕ) → other ≢ path_below into p → IsSameAt other old new) → IsSomeAnd (found p) (IsCopied into new p)
      → (is_named done q ≡ true → IsSomeAnd (found q) (IsCopied into old q)) → (is_named done q || b) ≡ true → IsSomeAnd (found q) (IsCopied into new q)
  each_more found done p q old new true is others copy before h = at_path found new p q is copy
  each_more found done p q old new false is others copy before h =
      still_copied old new q (found q) (others (path_below into q) (other_place into p q (differs p q is))) (before (left_true (is_named done q) h))

  -- a copy was stored for the path, and nothing at any other place
  pub more_copied : (found : List ℕ → Option Target) (done : List (List ℕ)) (p : List ℕ) (before old new : Kept) → AreCopied into state found done before old
      → ((other : List ℕ) → other ≢ path_below into p → IsSameAt other old new) → IsSomeAnd (found p) (IsCopied into new p) → AreCopied into state found (done ++ p ∷ []) before new
  more_copied found done p before old new was others copy = record {
    each = λ q h. each_more found done p q old new (bytes_eq p q) refl others copy (was.each q) (sym (named_more done p q) ∙ h);
    others = λ place spared none bytes. others place (none_last into done p place none) bytes ∙ was.others place spared (none_before into done p place none) bytes;
  }

  -- what a copy has is what was stored
  pub stored_copy : (took : List ℕ → Bool) (new : Kept) (p : List ℕ) (t : Option Target) → is_below p ≡ true
      → ((bytes : List ℕ) → took bytes ≡ true → new (path_below into p) bytes ≡ true) → IsSomeAnd t (HasContentOf took) → IsSomeAnd t (IsCopied into new p)
  stored_copy took new p None below stored h = h
  stored_copy took new p (Some t) below stored h = record { below = below; bytes = h.bytes; kept = stored h.bytes h.taken; content = h.content }

  again_each : (found : List ℕ → Option Target) (done : List (List ℕ)) (p q : List ℕ) (now : Kept) (b : Bool) → bytes_eq p q ≡ b → IsSomeAnd (found p) (IsCopied into now p)
      → (is_named done q ≡ true → IsSomeAnd (found q) (IsCopied into now q)) → (is_named done q || b) ≡ true → IsSomeAnd (found q) (IsCopied into now q)
  again_each found done p q now true is copy before h = at_path found now p q is copy
  again_each found done p q now false is copy before h = before (left_true (is_named done q) h)

  -- the path is one of those that were stored
  pub again_copied : (found : List ℕ → Option Target) (done : List (List ℕ)) (p : List ℕ) (before now : Kept) → is_named done p ≡ true → AreCopied into state found done before now
      → AreCopied into state found (done ++ p ∷ []) before now
  again_copied found done p before now there was = record {
    each = λ q h. again_each found done p q now (bytes_eq p q) refl (was.each p there) (was.each q) (sym (named_more done p q) ∙ h);
    others = λ place spared none. was.others place spared (none_before into done p place none);
  }

  -- the path was one of those that were stored, or a copy was stored for it, and nothing at any other place; or nothing was
  pub once_copied : {Y : Type 0} (set : BTreeSet (String Y)) (found : List ℕ → Option Target) (done : List (List ℕ)) (p : List ℕ) (flag : Bool) (before old new : Kept) → HasPaths set done
      → AreCopied into state found done before old → (contains_text set p ≡ true → new ≡ old) → (contains_text set p ≡ false → flag ≡ true → IsSomeAnd (found p) (IsCopied into new p))
      → (flag ≡ false → new ≡ old) → ((other : List ℕ) → other ≢ path_below into p → IsSameAt other old new) → AreCopied into state found (with_stored done p flag) before new
  once_copied set found done p false before old new has was again copy not_stored others = subst (λ k. AreCopied into state found done before k) (sym (not_stored refl)) was
  once_copied set found done p true before old new has was again copy not_stored others = by (contains_text set p) refl
    where
      by : (b : Bool) → contains_text set p ≡ b → AreCopied into state found (done ++ p ∷ []) before new
      by true is = subst (λ k. AreCopied into state found (done ++ p ∷ []) before k) (sym (again is)) (again_copied found done p before old (sym (has p) ∙ is) was)
      by false is = more_copied found done p before old new was others (copy is refl)

pub again_paths : {Y : Type 0} (set : BTreeSet (String Y)) (done : List (List ℕ)) (p : List ℕ) → contains_text set p ≡ true → HasPaths set done → HasPaths set (done ++ p ∷ [])
again_paths set done p there has q = by (bytes_eq p q) refl
  where
    same : (a : Bool) → a ≡ true → (a || true) ≡ a
    same true h = refl
    same false h = absurd (cc)

    by : (b : Bool) → bytes_eq p q ≡ b → contains_text set q ≡ is_named (done ++ p ∷ []) q
    by true is =
        let at : is_named done q ≡ true = subst (λ z. is_named done z ≡ true) ((bytes_eq-Decides p q).0 is) (sym (has p) ∙ there) in
        has q ∙ sym (same (is_named done q) at) ∙ ap (λ b. is_named done q || b) (sym is) ∙ sym (named_more done p q)
    by false is = has q ∙ sym (or_false (is_named done q)) ∙ ap (λ b. is_named done q || b) (sym is) ∙ sym (named_more done p q)

pub more_paths : {Y : Type 0} (old new : BTreeSet (String Y)) (done : List (List ℕ)) (p : List ℕ) → ((q : List ℕ) → contains_text new q ≡ (if bytes_eq p q then true else contains_text old q))
    → HasPaths old done → HasPaths new (done ++ p ∷ [])
more_paths old new done p is has q = is q ∙ ap (λ b. if bytes_eq p q then true else b) (has q) ∙ swap (bytes_eq p q) (is_named done q) ∙ sym (named_more done p q)
  where
    swap : (a b : Bool) → (if a then true else b) ≡ (b || a)
    swap true true = refl
    swap true false = refl
    swap false true = refl
    swap false false = refl

-- ---- what was decided of paths

module _ (has_place blocked : List ℕ → Bool) where
  -- the copy of the path had been stored
  pub decided_again : (d : Decided) (done : List (List ℕ)) (p : List ℕ) → contains_text d.stored p ≡ true → AreDecided has_place blocked d done
      → AreDecided has_place blocked d (done ++ p ∷ []) × IsFlag has_place blocked p true
  decided_again d done p there is = (record { stored = again_paths d.stored done p there is.stored; placed = is.placed; refused = is.refused }, is.placed p there)

  one_true : (p q : List ℕ) (b : Bool) → bytes_eq p q ≡ b → has_place p ≡ true → (old : Bool) → (old ≡ true → has_place q ≡ true) → (if b then true else old) ≡ true → has_place q ≡ true
  one_true p q true is free old before h = subst (λ z. has_place z ≡ true) ((bytes_eq-Decides p q).0 is) free
  one_true p q false is free old before h = before h

  -- now it was
  pub decided_stored : (old new : Decided) (done : List (List ℕ)) (p : List ℕ) → ((q : List ℕ) → contains_text new.stored q ≡ (if bytes_eq p q then true else contains_text old.stored q))
      → new.refused ≡ old.refused → IsFlag has_place blocked p true → AreDecided has_place blocked old done
      → AreDecided has_place blocked new (done ++ p ∷ []) × IsFlag has_place blocked p true
  decided_stored old new done p more same free was = (
    record {
      stored = more_paths old.stored new.stored done p more was.stored;
      placed = λ q h. one_true p q (bytes_eq p q) refl free (contains_text old.stored q) (was.placed q) (sym (more q) ∙ h);
      refused = λ q h. was.refused q (subst (λ s. contains_text s q ≡ true) same h);
    },
    free,
  )

  -- none can be stored for it
  pub decided_refused : (old mid new : Decided) (done : List (List ℕ)) (p : List ℕ) → contains_text old.stored p ≡ false
      → ((q : List ℕ) → contains_text mid.stored q ≡ (if bytes_eq p q then true else contains_text old.stored q)) → ((q : List ℕ) → contains_text new.stored q ≡ (if bytes_eq p q then false else contains_text mid.stored q))
      → ((q : List ℕ) → contains_text new.refused q ≡ (if bytes_eq p q then true else contains_text old.refused q)) → IsFlag has_place blocked p false → AreDecided has_place blocked old done
      → AreDecided has_place blocked new done × IsFlag has_place blocked p false
  decided_refused old mid new done p absent more less refused cause was = (
    record {
      stored = λ q. back q ∙ was.stored q;
      placed = λ q h. was.placed q (sym (back q) ∙ h);
      refused = λ q h. one q (bytes_eq p q) refl (sym (refused q) ∙ h);
    },
    cause,
  )
    where
      step : (q : List ℕ) (b : Bool) → bytes_eq p q ≡ b → (if b then false else (if b then true else contains_text old.stored q)) ≡ contains_text old.stored q
      step q true is = sym (subst (λ z. contains_text old.stored z ≡ false) ((bytes_eq-Decides p q).0 is) absent)
      step q false is = refl

      back : (q : List ℕ) → contains_text new.stored q ≡ contains_text old.stored q
      back q = less q ∙ ap (λ b. if bytes_eq p q then false else b) (more q) ∙ step q (bytes_eq p q) refl

      one : (q : List ℕ) (b : Bool) → bytes_eq p q ≡ b → (if b then true else contains_text old.refused q) ≡ true → IsFlag has_place blocked q false
      one q true is h = subst (λ z. IsFlag has_place blocked z false) ((bytes_eq-Decides p q).0 is) cause
      one q false is h = was.refused q h

-- ---- flags, one after another

none_chosen : (w : List (List ℕ)) → chosen w [] ≡ []
none_chosen [] = refl
none_chosen (p ∷ w) = refl

-- one flag more
chosen_more : (w : List (List ℕ)) (stored : List Bool) (p : List ℕ) (flag : Bool) → slice_get w (length stored) ≡ Some p → chosen w (stored ++ flag ∷ []) ≡ with_stored (chosen w stored) p flag
chosen_more [] stored p flag at = absurd (cc)
chosen_more (q ∷ w) [] p true at = let same : q ≡ p = cc in ap (λ z. z ∷ chosen w []) same ∙ ap (λ l. p ∷ l) (none_chosen w)
chosen_more (q ∷ w) [] p false at = none_chosen w
chosen_more (q ∷ w) (true ∷ stored) p true at = ap (λ l. q ∷ l) (chosen_more w stored p true at)
chosen_more (q ∷ w) (true ∷ stored) p false at = ap (λ l. q ∷ l) (chosen_more w stored p false at)
chosen_more (q ∷ w) (false ∷ stored) p flag at = chosen_more w stored p flag at

copy_is : {K : Type 0} (took : K → List ℕ → Bool) (copies : List (Option K)) (found : List ℕ → Option Target) (w : List (List ℕ)) (i : ℕ) (p : List ℕ) (file : K)
    → AllZip (IsCopyFor took) copies (map found w) → slice_get w i ≡ Some p → slice_get copies i ≡ Some (Some file) → IsCopyFor took (Some file) (found p)
copy_is took [] found w i p file h at is = absurd (cc)
copy_is took (c ∷ copies) found [] i p file h at is = absurd h
copy_is took (c ∷ copies) found (q ∷ w) zero p file h at is =
    let same : q ≡ p = cc in let one : c ≡ Some file = cc in subst (λ z. IsCopyFor took (Some file) (found z)) same (subst (λ o. IsCopyFor took o (found q)) one h.0)
copy_is took (c ∷ copies) found (q ∷ w) (suc i) p file h at is = copy_is took copies found w i p file h.1 at is

-- the flag at an index, after one more
flag_more : (stored : List Bool) (flag : Bool) (j : ℕ) (other : Bool) → slice_get (stored ++ flag ∷ []) j ≡ Some other → (slice_get stored j ≡ Some other) ⊎ ((j ≡ length stored) × (other ≡ flag))
flag_more [] flag zero other h = inr (refl, cc)
flag_more [] flag (suc j) other h = absurd (cc)
flag_more (x ∷ stored) flag zero other h = inl h
flag_more (x ∷ stored) flag (suc j) other h = by (flag_more stored flag j other h)
  where
    by : (slice_get stored j ≡ Some other) ⊎ ((j ≡ length stored) × (other ≡ flag)) → (slice_get (x ∷ stored) (suc j) ≡ Some other) ⊎ ((suc j ≡ length (x ∷ stored)) × (other ≡ flag))
    by (inl h) = inl h
    by (inr h) = inr (ap suc h.0, h.1)

flags_more : (has_place blocked : List ℕ → Bool) (w : List (List ℕ)) (v : List Verdict) (stored : List Bool) (p : List ℕ) (flag : Bool) → slice_get w (length stored) ≡ Some p
    → (flag ≡ true → is_good_at v (length stored) ≡ true) → (is_good_at v (length stored) ≡ true → IsFlag has_place blocked p flag) → AreFlags has_place blocked w v stored
    → AreFlags has_place blocked w v (stored ++ flag ∷ [])
flags_more has_place blocked w v stored p flag at good is was = record {
  only_good = λ j h. only j (flag_more stored flag j true h);
  each = λ j q other there h fine. each j q other there fine (flag_more stored flag j other h);
}
  where
    only : (j : ℕ) → (slice_get stored j ≡ Some true) ⊎ ((j ≡ length stored) × (true ≡ flag)) → is_good_at v j ≡ true
    only j (inl h) = was.only_good j h
    only j (inr h) = subst (λ k. is_good_at v k ≡ true) (sym h.0) (good (sym h.1))

    each : (j : ℕ) (q : List ℕ) (other : Bool) → slice_get w j ≡ Some q → is_good_at v j ≡ true → (slice_get stored j ≡ Some other) ⊎ ((j ≡ length stored) × (other ≡ flag)) → IsFlag has_place blocked q other
    each j q other there fine (inl h) = was.each j q other there h fine
    each j q other there fine (inr h) =
        let same : q ≡ p = cc in
        subst (λ z. IsFlag has_place blocked z other) (sym same) (subst (IsFlag has_place blocked p) (sym h.1) (is (subst (λ k. is_good_at v k ≡ true) h.0 fine)))

-- what is at the seam of two lists
seam_at : (stored : List Bool) (x : Bool) (rest : List Bool) → slice_get (stored ++ x ∷ rest) (length stored) ≡ Some x
seam_at [] x rest = refl
seam_at (y ∷ stored) x rest = seam_at stored x rest

seam_set : (stored : List Bool) (x b : Bool) (rest : List Bool) → set (stored ++ x ∷ rest) (length stored) b ≡ stored ++ b ∷ rest
seam_set [] x b rest = refl
seam_set (y ∷ stored) x b rest = ap (λ l. y ∷ l) (seam_set stored x b rest)

-- a path that is no candidate has no place, and one that is has one if its place isn't the state's
flag_of_none : (into state : List ℕ) (blocked : List ℕ → Bool) (paths : List (List ℕ)) (p : List ℕ) (good : Bool) → (good && may_have_copy paths p) ≡ false → good ≡ true → IsFlag (has_place into state paths) blocked p false
flag_of_none into state blocked paths p true h fine = inl (ap (λ b. b && is_free into state p) h)
flag_of_none into state blocked paths p false h fine = absurd (cc)

left_of : (a b : Bool) → (a && b) ≡ true → a ≡ true
left_of true b h = refl
left_of false b h = absurd (cc)

right_of : (a b : Bool) → (a && b) ≡ true → b ≡ true
right_of true b h = h
right_of false b h = absurd (cc)

flag_of_one : (into state : List ℕ) (blocked : List ℕ → Bool) (paths : List (List ℕ)) (p : List ℕ) (flag : Bool) → may_have_copy paths p ≡ true → IsFlag (is_free into state) blocked p flag → IsFlag (has_place into state paths) blocked p flag
flag_of_one into state blocked paths p true may is = ap (λ b. b && is_free into state p) may ∙ is
flag_of_one into state blocked paths p false may (inl taken) = inl (ap (λ b. b && is_free into state p) may ∙ taken)
flag_of_one into state blocked paths p false may (inr is) = inr is

-- a candidate is a path below the folder
pub below_of : (paths : List (List ℕ)) (p : List ℕ) (good : Bool) → (good && may_have_copy paths p) ≡ true → is_below p ≡ true
below_of paths p good h = left_of (is_below p) (not (is_folder_of_one paths p)) (right_of good (may_have_copy paths p) h)

-- What is done at an index: the flags before it say which copies were stored, and those from it on which paths are candidates.
pub record IsDone {K : Type 0} (pl : Placing) (took : K → List ℕ → Bool) (w : List (List ℕ)) (v : List Verdict) (copies : List (Option K)) (i : ℕ) (flags : List Bool)
    (d : Decided) (before now : Kept) : Type 0 where
  pub candidates : List Bool
  pub are_candidates : AreCandidates w v candidates
  pub stored : List Bool
  pub at : length stored ≡ i
  pub all : flags ≡ stored ++ drop i candidates
  pub are_flags : AreFlags (has_place pl.site.path pl.state (good_paths w v)) (is_blocked pl) w v stored
  pub decided : AreDecided (is_free pl.site.path pl.state) (is_blocked pl) d (chosen w stored)
  pub copied : (found : List ℕ → Option Target) → AllZip (IsCopyFor took) copies (map found w) → AreCopied pl.site.path pl.state found (chosen w stored) before now
  pub spared : IsSameAt pl.state before now
  pub outside : OutsideKept pl.site.path pl.state before now

module _ {K : Type 0} (pl : Placing) (took : K → List ℕ → Bool) (w : List (List ℕ)) (v : List Verdict) (copies : List (Option K)) where
  no_flags : AreFlags (has_place pl.site.path pl.state (good_paths w v)) (is_blocked pl) w v []
  no_flags = record { only_good = λ j h. absurd (cc); each = λ j q flag there h fine. absurd (cc) }

  none_copied : (found : List ℕ → Option Target) (before : Kept) → AreCopied pl.site.path pl.state found (chosen w []) before before
  none_copied found before = subst (λ l. AreCopied pl.site.path pl.state found l before before) (sym (none_chosen w)) (record { each = λ q named. absurd (cc); others = λ place spared none bytes. refl })

  pub none_installed : (before : Kept) → AreSomeInstalled took copies pl w v before before
  none_installed before found h = ([], record { flags = no_flags; copied = none_copied found before })

  pub none_done : (flags : List Bool) (d : Decided) (before : Kept) → AreCandidates w v flags → ((q : List ℕ) → contains_text d.stored q ≡ false) → ((q : List ℕ) → contains_text d.refused q ≡ false)
      → IsDone pl took w v copies 0 flags d before before
  none_done flags d before are stored refused = record {
    candidates = flags;
    are_candidates = are;
    stored = [];
    at = refl;
    all = refl;
    are_flags = no_flags;
    decided = record {
      stored = λ q. stored q ∙ ap (λ l. is_named l q) (sym (none_chosen w));
      placed = λ q h. let no = stored q in absurd (cc);
      refused = λ q h. let no = refused q in absurd (cc);
    };
    copied = λ found h. none_copied found before;
    spared = λ bytes. refl;
    outside = λ place isnt none bytes. refl;
  }

  module _ (i : ℕ) (flags : List Bool) (d : Decided) (before now : Kept) (p : List ℕ) (at : slice_get w i ≡ Some p) (inside : i < length w) (done : IsDone pl took w v copies i flags d before now) where
    within : i < length done.candidates
    within = subst (λ n. i < n) (sym done.are_candidates.by_position) inside

    abbrev candidate : Bool
    candidate = get_or done.candidates i false

    abbrev rest : List Bool
    rest = drop (suc i) done.candidates

    split : flags ≡ done.stored ++ candidate ∷ rest
    split = done.all ∙ ap (λ l. done.stored ++ l) (drop-cons done.candidates i false within)

    at_candidate : slice_get flags i ≡ Some candidate
    at_candidate = ap (λ l. slice_get l i) split ∙ subst (λ n. slice_get (done.stored ++ candidate ∷ rest) n ≡ Some candidate) done.at (seam_at done.stored candidate rest)

    candidate_is : Some candidate ≡ Some (is_good_at v i && may_have_copy (good_paths w v) p)
    candidate_is = sym (slice_get-get_or done.candidates i false within) ∙ done.are_candidates.each i p at

    -- whether the path is a candidate
    pub tested : (flag : Bool) → slice_get flags i ≡ Some flag → (is_good_at v i && may_have_copy (good_paths w v) p) ≡ flag
    tested flag h = let same : Some flag ≡ Some candidate = sym h ∙ at_candidate in let is = candidate_is in cc

    at_stored : slice_get w (length done.stored) ≡ Some p
    at_stored = subst (λ n. slice_get w n ≡ Some p) (sym done.at) at

    good_at : (flag : Bool) → (flag ≡ true → is_good_at v i ≡ true) → flag ≡ true → is_good_at v (length done.stored) ≡ true
    good_at flag good h = subst (λ n. is_good_at v n ≡ true) (sym done.at) (good h)

    -- one flag more
    more_done : (flag : Bool) (new : List Bool) (e : Decided) (later : Kept) → new ≡ done.stored ++ flag ∷ rest → (flag ≡ true → is_good_at v i ≡ true)
        → (is_good_at v i ≡ true → IsFlag (has_place pl.site.path pl.state (good_paths w v)) (is_blocked pl) p flag)
        → AreDecided (is_free pl.site.path pl.state) (is_blocked pl) e (with_stored (chosen w done.stored) p flag)
        → ((found : List ℕ → Option Target) → AllZip (IsCopyFor took) copies (map found w) → AreCopied pl.site.path pl.state found (with_stored (chosen w done.stored) p flag) before later)
        → IsSameAt pl.state now later → OutsideKept pl.site.path pl.state now later → IsDone pl took w v copies (i + 1) new e before later
    more_done flag new e later is good flagged decided copied spared outside = subst (λ j. IsDone pl took w v copies j new e before later) (sym (add-one i)) (record {
      candidates = done.candidates;
      are_candidates = done.are_candidates;
      stored = done.stored ++ flag ∷ [];
      at = length-append done.stored (flag ∷ []) ∙ add-one (length done.stored) ∙ ap suc done.at;
      all = is ∙ sym (append_assoc done.stored (flag ∷ []) rest);
      are_flags = flags_more (has_place pl.site.path pl.state (good_paths w v)) (is_blocked pl) w v done.stored p flag at_stored (good_at flag good)
          (λ h. flagged (subst (λ n. is_good_at v n ≡ true) done.at h)) done.are_flags;
      decided = subst (AreDecided (is_free pl.site.path pl.state) (is_blocked pl) e) (sym (chosen_more w done.stored p flag at_stored)) decided;
      copied = λ found h. subst (λ l. AreCopied pl.site.path pl.state found l before later) (sym (chosen_more w done.stored p flag at_stored)) (copied found h);
      spared = λ bytes. spared bytes ∙ done.spared bytes;
      outside = λ place isnt none bytes. outside place isnt none bytes ∙ done.outside place isnt none bytes;
    })

    -- the path is no candidate
    pub one_skipped : slice_get flags i ≡ Some false → IsDone pl took w v copies (i + 1) flags d before now
    one_skipped h =
        let is : candidate ≡ false = let same = at_candidate in cc in
        more_done false flags d now (split ∙ ap (λ b. done.stored ++ b ∷ rest) is) (λ never. absurd (cc))
        (λ fine. flag_of_none pl.site.path pl.state (is_blocked pl) (good_paths w v) p (is_good_at v i) (tested false h) fine)
        done.decided done.copied (λ bytes. refl) (λ place isnt none bytes. refl)

    -- it is one, and was decided
    pub one_decided : (flag : Bool) (new : List Bool) (e : Decided) (later : Kept) → slice_get flags i ≡ Some true → new ≡ set flags i flag
        → DecidesOne pl d e p flag
        → ((found : List ℕ → Option Target) (all : List (List ℕ)) → AllZip (IsCopyFor took) copies (map found w) → HasPaths d.stored all → AreCopied pl.site.path pl.state found all before now
        → AreCopied pl.site.path pl.state found (with_stored all p flag) before later)
        → IsSameAt pl.state now later → OutsideKept pl.site.path pl.state now later → IsDone pl took w v copies (i + 1) new e before later
    one_decided flag new e later h is decides copied spared outside =
        let both : (is_good_at v i && may_have_copy (good_paths w v) p) ≡ true = tested true h in
        let one = decides (chosen w done.stored) done.decided in
        more_done flag new e later
        (is ∙ ap (λ l. set l i flag) split ∙ subst (λ n. set (done.stored ++ candidate ∷ rest) n flag ≡ done.stored ++ flag ∷ rest) done.at (seam_set done.stored candidate flag rest))
        (λ set. left_of (is_good_at v i) (may_have_copy (good_paths w v) p) both)
        (λ fine. flag_of_one pl.site.path pl.state (is_blocked pl) (good_paths w v) p flag (right_of (is_good_at v i) (may_have_copy (good_paths w v) p) both) one.1)
        one.0 (λ found are. copied found (chosen w done.stored) are done.decided.stored (done.copied found are)) spared outside

  pub some_done : (i : ℕ) (flags : List Bool) (d : Decided) (before now later : Kept) → later ≡ now → IsDone pl took w v copies i flags d before now
      → AreSomeInstalled took copies pl w v before later
  some_done i flags d before now later same done found h = (done.stored, record { flags = done.are_flags; copied = subst (AreCopied pl.site.path pl.state found (chosen w done.stored) before) (sym same) (done.copied found h) })

  module _ (i : ℕ) (flags : List Bool) (d : Decided) (before now : Kept) (end : length w ≤ i) (done : IsDone pl took w v copies i flags d before now) where
    all_flags : flags ≡ done.stored
    all_flags = done.all ∙ ap (λ l. done.stored ++ l) (drop_all i done.candidates (subst (λ n. n ≤ i) (sym done.are_candidates.by_position) end)) ∙ append-nil done.stored

    pub all_done : AreInstalled took copies pl w v before now flags
    all_done found h = subst (λ l. AreStored pl found w v l before now) (sym all_flags) (record { flags = done.are_flags; copied = done.copied found h })

  pub flags_count : (i : ℕ) (flags : List Bool) (d : Decided) (before now : Kept) → i ≤ length w → IsDone pl took w v copies i flags d before now → length flags ≡ length w
  flags_count i flags d before now upto done =
      let part : length (done.stored ++ drop i done.candidates) ≡ length done.stored + length (drop i done.candidates) = length-append done.stored (drop i done.candidates) in
      let left = length-drop i done.candidates in
      let whole : length flags ≡ length (done.stored ++ drop i done.candidates) = ap length done.all in
      omega (arith, done.at, done.are_candidates.by_position)

-- the copy at an index is one for the path there
pub copy_for : {K : Type 0} (took : K → List ℕ → Bool) (w : List (List ℕ)) (copies : List (Option K)) (i : ℕ) (p : List ℕ) (o : Option (Bor K))
    → IfSome o (λ file. slice_get copies i ≡ Some (Some file.now)) → slice_get w i ≡ Some p
    → (found : List ℕ → Option Target) → AllZip (IsCopyFor took) copies (map found w) → IfSome o (λ file. IsCopyFor took (Some file.now) (found p))
copy_for took w copies i p None at there found h = tt
copy_for took w copies i p (Some file) at there found h = copy_is took copies found w i p file.now h there at

pub path_at : {Y : Type 0} (wanted : List (String Y)) (i : ℕ) (x : String Y) → i < length wanted → x ≡ get_or wanted i x → slice_get (map string_bytes wanted) i ≡ Some (string_bytes x)
path_at wanted i x inside is = slice_get-map string_bytes wanted i ∙ ap (option_map string_bytes) (slice_get_read wanted (length wanted) i x refl inside is)

pub same_count : {Y : Type 0} (wanted : List (String Y)) (i : ℕ) → length wanted ≤ i → length (map string_bytes wanted) ≤ i
same_count wanted i end = subst (λ n. n ≤ i) (sym (length-map wanted string_bytes)) end

pub none_in : {Y : Type 0} (set : BTreeSet (String Y)) → IsEmpty set → (q : List ℕ) → contains_text set q ≡ false
none_in set empty q = grind (arith, text_keys)

pub inside_paths : {Y : Type 0} (wanted : List (String Y)) (i : ℕ) → i < length wanted → i < length (map string_bytes wanted)
inside_paths wanted i inside = subst (λ n. i < n) (sym (length-map wanted string_bytes)) inside

-- ---- the copies of a course

copies_for : {K S : Type 0} (target : S → Option Target) (took : K → List ℕ → Bool) (copies : List (Option K)) (search : List ℕ → S) (w : List (List ℕ))
    → AllZip (λ c s. IsCopyFor took c (target s)) copies (map search w) → AllZip (IsCopyFor took) copies (map (λ p. target (search p)) w)
copies_for target took [] search [] h = tt
copies_for target took [] search (p ∷ w) h = absurd h
copies_for target took (c ∷ copies) search [] h = absurd h
copies_for target took (c ∷ copies) search (p ∷ w) h = (h.0, copies_for target took copies search w h.1)

-- there is a copy for each path of a course, if there is one for a target
pub copies_of : {K : Type 0} (took : K → List ℕ → Bool) (copies : List (Option K)) (r : Request) (metadata : Files) (c : Course) → c ≡ course_of r metadata
    → course.AreCopiesFor took copies c.searches → AllZip (IsCopyFor took) copies (map (target_for r metadata) r.wanted)
copies_of took copies r metadata c is h =
    let now = course_of r metadata in
    copies_for target_of took copies (searched metadata r.moment r.limit now.trusted now.end) r.wanted
    (subst (λ (k : Course). course.AreCopiesFor took copies k.searches) is h)

-- the same since an earlier moment, if nothing but the state has changed until then
pub copied_since : (into state : List ℕ) (found : List ℕ → Option Target) (paths : List (List ℕ)) (before mid after : Kept)
    → ((place : List ℕ) → place ≢ state → IsSameAt place before mid) → AreCopied into state found paths mid after → AreCopied into state found paths before after
copied_since into state found paths before mid after only h = record {
  each = h.each;
  others = λ place spared none bytes. h.others place spared none bytes ∙ only place spared bytes;
}

pub stored_since : (pl : Placing) (found : List ℕ → Option Target) (wanted : List (List ℕ)) (verdicts : List Verdict) (stored : List Bool) (before mid after : Kept)
    → ((place : List ℕ) → place ≢ pl.state → IsSameAt place before mid) → AreStored pl found wanted verdicts stored mid after → AreStored pl found wanted verdicts stored before after
stored_since pl found wanted verdicts stored before mid after only h =
    record { flags = h.flags; copied = copied_since pl.site.path pl.state found (chosen wanted stored) before mid after only h.copied }
