-- Steps one after another.
use Rattle.std.proofs.Common.{◌≡◌, Result, Ok, Err, ap, sym, subst, ◌∙◌}
use Rattle.std.specs.Prelude.{⊤}
use Rattle.cjson.specs.Document.{◌>>=◌}
use Rattle.cjson.specs.declared.fault.NoMemory.{NoMemory}
use Rattle.meta.specs.Content.{Answers}
use Rattle.meta.specs.declared.fault.Fault.{Fault}
use Rattle.meta.specs.declared.fault.Stop.{Stop}
use Rattle.meta.specs.declared.fault.Stop.TheVariants as stop
use Rattle.rolechain.specs.Advance.{State, Advanced, or_stop, ended, advanced_of, or_halt, Leaves, Ends}
use Rattle.rolechain.specs.declared.end.Step.{Step}
use Rattle.rolechain.specs.declared.end.End.{End}
use Rattle.rolechain.specs.declared.end.Halt.{Halt}
use Rattle.rolechain.specs.declared.end.Halt.TheVariants as halt

-- the rest of the steps, from the state that the first one left
pub goes_on : (r : Result State Advanced) (f : State → Result State Advanced) (s t : State) (answer : Result ⊤ Halt) → r ≡ Ok s
    → Leaves (f s) answer t → Leaves (r >>= f) answer t
goes_on r f s t (Ok done) e h = ap (λ x. x >>= f) e ∙ h
goes_on r f s t (Err (halt.Stopped at fault)) e h = ap (λ x. x >>= f) e ∙ h
goes_on r f s t (Err halt.NoMemory) e h = tt

-- the stop of the first step is that of them all
pub halts : (r : Result State Advanced) (f : State → Result State Advanced) (s : State) (why : Halt) → Leaves r (Err why) s → Leaves (r >>= f) (Err why) s
halts r f s (halt.Stopped at fault) h = ap (λ x. x >>= f) h
halts r f s halt.NoMemory h = tt

-- ---- the checks of a step

-- the result of the checks, if it is a value
pub gives : {A : Type 0} (at : Step) (x : Result A Fault) (r : Result A Stop) (v : A) → Answers x r (λ p. p) → or_halt at r ≡ Ok v → x ≡ Ok v
gives at x (Ok w) v h e = cc
gives at x (Err why) v h e = absurd (cc)

-- the checks' fault stops the cycle in the step
pub stops_at : {A : Type 0} (at : Step) (s : State) (x : Result A Fault) (r : Result A Stop) (why : Halt) (f : A → Result State Advanced)
    → Answers x r (λ p. p) → or_halt at r ≡ Err why → Leaves (or_stop s at x >>= f) (Err why) s
stops_at at s x (Ok w) why f h e = absurd (cc)
stops_at at s x (Err (stop.Refused fault)) why f h e =
    let same : halt.Stopped at fault ≡ why = cc in
    subst (λ w. Leaves (or_stop s at x >>= f) (Err w) s) same (ap (λ y. or_stop s at y >>= f) h)
stops_at at s x (Err stop.NoMemory) why f h e =
    let same : halt.NoMemory ≡ why = cc in
    subst (λ w. Leaves (or_stop s at x >>= f) (Err w) s) same tt

ends_in : (r : Result State Advanced) (s : State) (end : Result End NoMemory) (e f : End) → end ≡ Ok e → end ≡ Ok f → ended r ≡ record { state = s; end = f } → advanced_of (s, e) ≡ ended r
ends_in r s end e f is so h =
    let same : e ≡ f = cc in
    ap (λ x. record { state = s; end = x }) same ∙ sym h

-- how the steps end is how the cycle ends
pub ends : (r : Result State Advanced) (s : State) (answer : Result ⊤ Halt) (end : Result End NoMemory) (e : End) → end ≡ Ok e
    → Leaves r answer s → Ends answer end → advanced_of (s, e) ≡ ended r
ends r s (Ok done) end e is h so = ends_in r s end e _ is so (ap ended h)
ends r s (Err (halt.Stopped at fault)) end e is h so = ends_in r s end e _ is so (ap ended h)
ends r s (Err halt.NoMemory) (Ok f) e is h so = absurd so
ends r s (Err halt.NoMemory) (Err f) e is h so = absurd (cc)
