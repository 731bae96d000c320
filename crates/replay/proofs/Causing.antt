-- Why a run fails, out of why its steps do.
use Rattle.std.proofs.Common.{◌≡◌, inl, inr, List, [], ◌∷◌, Result, Err, IfErr, subst, sym}
use Rattle.std.specs.List.{AllZip}
use Rattle.failure.specs.declared.failure.Failure.{Failure}
use Rattle.failure.specs.declared.failure.Failure.TheVariants as failure
use Rattle.folder.specs.Folders.{Giving, HasFailed}
use Rattle.folder.proofs.Sameness.{failed_since}
use Rattle.update.specs.Causes.{IsCauseToRead, SomeFailed}
use Rattle.update.specs.Same.{IsCauseToEnd, IsSame}
use Rattle.update.specs.World.{Mirror}

-- ---- folders

pub same_failed : (a b c : List Mirror) → AllZip IsSame a b → SomeFailed b c → SomeFailed a c
same_failed [] [] c h f = f
same_failed [] (n ∷ b) c h f = absurd h
same_failed (m ∷ a) [] c h f = absurd h
same_failed (m ∷ a) (n ∷ b) [] h f = absurd f
same_failed (m ∷ a) (n ∷ b) (o ∷ c) h (inl (inl f)) = inl (inl (failed_since m.metadata n.metadata o.metadata h.0.metadata f))
same_failed (m ∷ a) (n ∷ b) (o ∷ c) h (inl (inr f)) = inl (inr (failed_since m.targets n.targets o.targets h.0.targets f))
same_failed (m ∷ a) (n ∷ b) (o ∷ c) h (inr f) = inr (same_failed a b c h.1 f)

pub same_read : (a b c : List Mirror) (f : Failure) → AllZip IsSame a b → IsCauseToRead b c f → IsCauseToRead a c f
same_read a b c failure.Words h is = absurd is
same_read a b c failure.Now h is = absurd is
same_read a b c failure.State h is = absurd is
same_read a b c (failure.Script line) h is = absurd is
same_read a b c failure.Input h is = absurd is
same_read a b c failure.Folder h is = same_failed a b c h is
same_read a b c failure.Clock h is = absurd is
same_read a b c failure.Output h is = absurd is
same_read a b c failure.Memory h is = tt

-- of a result that is this failure to read folders
pub read_err : {A : Type 0} (P : Failure → Type 0) (r : Result A Failure) (f : Failure) (a b : List Mirror) → r ≡ Err f → IsCauseToRead a b f
    → (SomeFailed a b → P failure.Folder) → P failure.Memory → IfErr r P
read_err P r f a b is why folder memory = subst (λ r. IfErr r P) (sym is) (by f why)
  where
    by : (f : Failure) → IsCauseToRead a b f → P f
    by failure.Words h = absurd h
    by failure.Now h = absurd h
    by failure.State h = absurd h
    by (failure.Script line) h = absurd h
    by failure.Input h = absurd h
    by failure.Folder h = folder h
    by failure.Clock h = absurd h
    by failure.Output h = absurd h
    by failure.Memory h = memory

-- ---- target files

-- a failure of one repository's target files, among all
pub ending_one : (old new : List Mirror) (before after : Giving) (f : Failure) → (HasFailed before after → SomeFailed old new) → IsCauseToEnd before after f → IsCauseToRead old new f
ending_one old new before after failure.Words failed is = is
ending_one old new before after failure.Now failed is = is
ending_one old new before after failure.State failed is = is
ending_one old new before after (failure.Script line) failed is = is
ending_one old new before after failure.Input failed is = is
ending_one old new before after failure.Folder failed is = failed is
ending_one old new before after failure.Clock failed is = is
ending_one old new before after failure.Output failed is = is
ending_one old new before after failure.Memory failed is = tt
