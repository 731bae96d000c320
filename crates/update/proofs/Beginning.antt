-- What follows from a start, from what the words name.
use Rattle.std.proofs.Common.{ℕ, Result, Ok, Err, IfOk}
use Rattle.update.specs.Runs.{Begins, IsStart, given_by}
use Rattle.update.specs.World.{World}
use Rattle.update.specs.declared.start.Settings.{Settings}
use Rattle.update.specs.declared.start.Start as program

module _ (settings : Settings) (old : World) (s : program.Start) (is : IsStart settings (given_by settings.locking old.gives_locked old.gives) old.shows s) where
  pub begins : (F : program.Start → Type 0) → F s → Begins settings old F
  begins F then = record { start = s; is_start = is; then = then }

  pub begins_ok : {E : Type 0} (F : program.Start → ℕ → Type 0) (r : Result ℕ E) → IfOk r (F s) → IfOk r (λ status. Begins settings old (λ s. F s status))
  begins_ok F (Ok status) then = begins (λ s. F s status) then
  begins_ok F (Err e) then = tt
