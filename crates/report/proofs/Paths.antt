-- The lines of wanted paths, one after another.
use Rattle.std.proofs.Common.{◌≡◌, ◌∙◌, ◌≤◌, ◌<◌, ◌+◌, ◌++◌, arith, ℕ, Bool, List, [], Option, Some, Result, Ok, Err, OnOk, String, ap, append_assoc, flat_map, get_or, length, map, string_bytes, subst, sym, take}
use Rattle.std.specs.List.{enumerate_from, slice_get}
use Rattle.std.specs.Option.{option_map_or}
use Rattle.std.proofs.lemmas.List.{get_or-map, length-map}
use Rattle.cycle.specs.declared.verdict.Verdict.{Verdict}
use Rattle.report.specs.Lines.{is_stored_at, path_line, path_text, path_texts, stored_text, why_at}
use Rattle.report.proofs.Numbered.{all_of, one_more}

module _ {Y : Type 0} (verdicts : List Verdict) (stored : List Bool) (whys : Option (List (List ℕ))) (wanted : List (String Y)) (begun : List ℕ) where
  abbrev f : ℕ × List ℕ → List ℕ
  f = path_text verdicts stored whys

  abbrev paths : List (List ℕ)
  paths = map string_bytes wanted

  -- one path more
  pub one_path : (i : ℕ) (x : String Y) (path : List ℕ) (is_stored : Bool) (old new : List ℕ)
      → i < length wanted → x ≡ get_or wanted i x → path ≡ string_bytes x → is_stored ≡ is_stored_at stored i
      → old ≡ begun ++ flat_map f (take i (enumerate_from 0 paths)) → new ≡ old ++ path_line verdicts whys i is_stored path
      → new ≡ begun ++ flat_map f (take (i + 1) (enumerate_from 0 paths))
  one_path i x path is_stored old new inside at is_path flag so_far is =
      let within : i < length paths = subst (λ n. i < n) (sym (length-map wanted string_bytes)) inside in
      let same : string_bytes x ≡ get_or paths i (string_bytes x) = ap string_bytes at ∙ sym (get_or-map string_bytes wanted i x (string_bytes x) inside) in
      let place : i ≡ i + 0 = omega arith in
      is
      ∙ ap (λ t. t ++ path_line verdicts whys i is_stored path) so_far
      ∙ append_assoc begun (flat_map f (take i (enumerate_from 0 paths))) (path_line verdicts whys i is_stored path)
      ∙ ap (λ t. begun ++ t)
      (ap (λ t. flat_map f (take i (enumerate_from 0 paths)) ++ t)
      (ap (λ s. path_line verdicts whys i s path) flag ∙ ap (λ p. f (i, p)) is_path ∙ ap (λ k. f (k, string_bytes x)) place)
      ∙ sym (one_more f paths 0 i (string_bytes x) within same))

  -- all paths
  pub all_paths : (i : ℕ) (text : List ℕ) → length wanted ≤ i → text ≡ begun ++ flat_map f (take i (enumerate_from 0 paths))
      → text ≡ begun ++ path_texts verdicts stored whys paths
  all_paths i text end so_far =
      so_far ∙ ap (λ t. begun ++ t) (all_of f paths 0 i (subst (λ n. n ≤ i) (sym (length-map wanted string_bytes)) end))

-- the line of a verdict, and then why
pub one_line : {A E : Type 0} (r : Result A E) (verdicts : List Verdict) (whys : Option (List (List ℕ))) (i : ℕ) (is_stored : Bool) (path : List ℕ) (v : Verdict) (old mid new : List ℕ)
    → slice_get verdicts i ≡ Some v → mid ≡ old ++ stored_text path v is_stored → OnOk r (new ≡ mid ++ why_at whys i)
    → OnOk r (new ≡ old ++ path_line verdicts whys i is_stored path)
one_line (Ok x) verdicts whys i is_stored path v old mid new at line why =
    why
    ∙ ap (λ t. t ++ why_at whys i) line
    ∙ append_assoc old (stored_text path v is_stored) (why_at whys i)
    ∙ ap (λ o. old ++ option_map_or (λ v. stored_text path v is_stored ++ why_at whys i) o []) (sym at)
one_line (Err e) verdicts whys i is_stored path v old mid new at line why = tt
