-- The place of a file of the trusted snapshot in a list of files.
use Rattle.std.proofs.Common.{rules, ◌≡◌, ◌∙◌, ℕ, ◌<◌, ◌+◌, Bool, true, false, cond, ◌&&◌, List, [], ◌∷◌, Option, Some, None, length, take, drop, sym, ap, refl, subst}
use Rattle.std.proofs.lemmas.List.{take-append-drop}
use Rattle.std.proofs.lemmas.Iterator.Adapters.{position_from-zero}
use Rattle.std.proofs.lemmas.List.Folds.{list_all-append}
use Rattle.std.specs.Prelude.{not, is_none, IfSome, position}
use Rattle.std.specs.List.{list_all, position_from}
use Rattle.meta.specs.declared.snapshot.Named.{Named}
use Rattle.examine.specs.Checks.{is_listed_below, is_kept_by}

none_or : (b : Bool) (i : ℕ) (r : Option ℕ) (others : Bool) → is_none r ≡ others → is_none (cond b (Some i) r) ≡ (not b && others)
none_or true i r others h = refl
none_or false i r others h = h

none_from : (p : Named → Bool) (i : ℕ) (xs : List Named) → is_none (position_from p i xs) ≡ list_all (λ x. not (p x)) xs
none_from p i [] = refl
none_from p i (x ∷ xs) = none_or (p x) i (position_from p (i + 1) xs) _ (none_from p (i + 1) xs)

within_or : (b : Bool) (i end : ℕ) (r : Option ℕ) → i < end → IfSome r (λ k. k < end) → IfSome (cond b (Some i) r) (λ k. k < end)
within_or true i end r here h = here
within_or false i end r here h = h

within_from : (p : Named → Bool) (i end : ℕ) (xs : List Named) → i + length xs ≡ end → IfSome (position_from p i xs) (λ k. k < end)
within_from p i end [] is = tt
within_from p i end (x ∷ xs) is = within_or (p x) i end (position_from p (i + 1) xs) (search rules) (within_from p (i + 1) end xs (search rules))

-- the first place that keeps a file is one of the list
pub within : (files : List Named) (old : Named) → IfSome (position (is_kept_by old) files) (λ k. k < length files)
within files old = subst (λ o. IfSome o (λ k. k < length files)) (sym (position_from-zero (is_kept_by old) files)) (within_from (is_kept_by old) 0 (length files) files (search rules))

none_in : (files : List Named) (old : Named) → is_none (position (is_kept_by old) files) ≡ is_listed_below files old
none_in files old = ap is_none (position_from-zero (is_kept_by old) files) ∙ none_from (is_kept_by old) 0 files

in_two : (from : ℕ) (files : List Named) (old : Named) → is_listed_below files old ≡ (is_listed_below (take from files) old && is_listed_below (drop from files) old)
in_two from files old = ap (λ fs. is_listed_below fs old) (sym (take-append-drop from files)) ∙ list_all-append (λ new. not (is_kept_by old new)) (take from files) (drop from files)

and_false : (b : Bool) → (b && false) ≡ false
and_false true = refl
and_false false = refl

and_true : (b : Bool) → (b && true) ≡ b
and_true true = refl
and_true false = refl

-- what keeps a file is after the place
pub kept_behind : (from place : ℕ) (files : List Named) (old : Named) → position (is_kept_by old) (drop from files) ≡ Some place → is_listed_below files old ≡ false
kept_behind from place files old is = in_two from files old ∙ ap (λ b. is_listed_below (take from files) old && b) (sym (none_in (drop from files) old) ∙ ap is_none is) ∙ and_false _

-- what keeps a file is before the place, if anywhere
pub kept_before : (from : ℕ) (files : List Named) (old : Named) → position (is_kept_by old) (drop from files) ≡ None → is_listed_below files old ≡ is_none (position (is_kept_by old) (take from files))
kept_before from files old is = in_two from files old ∙ ap (λ b. is_listed_below (take from files) old && b) (sym (none_in (drop from files) old) ∙ ap is_none is) ∙ and_true _ ∙ sym (none_in (take from files) old)
