-- The failure that a fault is.
use Rattle.std.proofs.Common.{◌≡◌, ◌≢◌, ◌⊎◌, inl, inr, Result, Ok, Err, IfErr, IsErrAnd, refl}
use Rattle.failure.specs.declared.failure.Failure.{Failure}
use Rattle.failure.specs.declared.failure.Failure.TheVariants as failure
use Rattle.rolechain.specs.declared.fault.StateFault.{StateFault}
use Rattle.rolechain.specs.declared.fault.StateFault.TheVariants as state

-- the failure that a state's fault is
pub of_state : {T : Type 0} (r : Result T Failure) (e : StateFault)
    → IsErrAnd r (λ f. (e ≡ state.NoMemory → f ≡ failure.Memory) × (e ≢ state.NoMemory → f ≡ failure.State))
    → IfErr r (λ f. (f ≡ failure.Memory) ⊎ (f ≡ failure.State))
of_state (Ok x) e h = tt
of_state (Err f) state.TooLong h = inr (h.1 (λ is. cc))
of_state (Err f) state.Malformed h = inr (h.1 (λ is. cc))
of_state (Err f) state.NoMemory h = inl (h.0 refl)
