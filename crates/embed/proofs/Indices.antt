-- The rows of the caller's lists by their indices.
use Rattle.std.proofs.Common.{◌≡◌, ℕ, zero, suc, ◌+◌, List, [], ◌∷◌, Option, Some, Bool, true, false, cond, bytes_eq, drop, slice_get, refl, subst, arith}
use Rattle.std.proofs.lemmas.Slice.Eq.{bytes_eq-Decides}
use Rattle.embed.specs.declared.job.Digests.{Digests}
use Rattle.embed.specs.declared.job.File.{File}
use Rattle.embed.specs.declared.job.Job.{Job}
use Rattle.embed.specs.Jobs.{Given, Givens, IsRow, Measured, Whole, givens_of, measure_in, nothing_given, with_digests, with_files, with_given}

-- the rest after the first of the rest
rest_next : {A : Type 0} (xs : List A) (i : ℕ) (x : A) (more : List A) → drop i xs ≡ x ∷ more → drop (suc i) xs ≡ more
rest_next [] zero x more e = absurd (cc)
rest_next [] (suc i) x more e = absurd (cc)
rest_next (y ∷ xs) zero x more e = cc
rest_next (y ∷ xs) (suc i) x more e = rest_next xs i x more e

rest_more : {A : Type 0} (xs : List A) (i : ℕ) (x : A) (more : List A) → drop i xs ≡ x ∷ more → drop (i + 1) xs ≡ more
rest_more xs i x more e =
    let next : suc i ≡ i + 1 = omega arith in
    subst (λ k. drop k xs ≡ more) next (rest_next xs i x more e)

rest_there : {A : Type 0} (xs : List A) (i : ℕ) (x : A) (more : List A) → drop i xs ≡ x ∷ more → slice_get xs i ≡ Some x
rest_there [] zero x more e = absurd (cc)
rest_there [] (suc i) x more e = absurd (cc)
rest_there (y ∷ xs) zero x more e = cc
rest_there (y ∷ xs) (suc i) x more e = rest_there xs i x more e

module _ (job : Job) where
  one_file : (b : Bool) (name : List ℕ) (at : ℕ) (f : File) (old : Option Given) → bytes_eq f.name.now name ≡ b → slice_get job.targets.now at ≡ Some f
      → IsRow job name old → IsRow job name (cond b (Some (Whole at f.bytes.now)) old)
  one_file true name at f old is there was = record { file = f; there = there; named = (bytes_eq-Decides f.name.now name).0 is; has = refl }
  one_file false name at f old is there was = was

  files_at : (fs : List File) (at : ℕ) (all : Givens) → drop at job.targets.now ≡ fs → ((name : List ℕ) → IsRow job name (all name))
      → (name : List ℕ) → IsRow job name (with_files at all fs name)
  files_at [] at all rest are = are
  files_at (f ∷ fs) at all rest are =
      files_at fs (at + 1) (with_given all f.name.now (Whole at f.bytes.now)) (rest_more job.targets.now at f fs rest)
      (λ name. one_file (bytes_eq f.name.now name) name at f (all name) refl (rest_there job.targets.now at f fs rest) (are name))

  one_row : (b : Bool) (name : List ℕ) (at : ℕ) (d : Digests) (old : Option Given) → bytes_eq d.name.now name ≡ b → slice_get job.digests.now at ≡ Some d
      → IsRow job name old → IsRow job name (cond b (Some (Measured at (measure_in d))) old)
  one_row true name at d old is there was = record { row = d; there = there; named = (bytes_eq-Decides d.name.now name).0 is; has = refl }
  one_row false name at d old is there was = was

  rows_at : (ds : List Digests) (at : ℕ) (all : Givens) → drop at job.digests.now ≡ ds → ((name : List ℕ) → IsRow job name (all name))
      → (name : List ℕ) → IsRow job name (with_digests at all ds name)
  rows_at [] at all rest are = are
  rows_at (d ∷ ds) at all rest are =
      rows_at ds (at + 1) (with_given all d.name.now (Measured at (measure_in d))) (rest_more job.digests.now at d ds rest)
      (λ name. one_row (bytes_eq d.name.now name) name at d (all name) refl (rest_there job.digests.now at d ds rest) (are name))

  -- each is the row at its index, and has the name
  pub are_rows : (name : List ℕ) → IsRow job name (givens_of job name)
  are_rows = rows_at job.digests.now 0 (with_files 0 nothing_given job.targets.now) refl (files_at job.targets.now 0 nothing_given refl (λ name. tt))
