-- Moments that go on.
use Rattle.std.proofs.Common.{◌≡◌, ◌∙◌, ℕ, sym, subst, inl, inr, refl, arith}
use Rattle.std.proofs.lemmas.Bool.{cases_lt}
use Rattle.leaves.specs.Disk.{Left, Passes}

-- where nothing was called
pub stays : {Step : Left → Left → Type 0} (now : ℕ) (at : ℕ → Left) → Step (at now) (at now) → Passes now now at at Step
stays {Step} now at same = record {
  later = omega arith;
  past = λ t le. refl;
  during = λ t from to. let here : now ≡ t = omega arith in subst (λ x. Step (at now) (at x)) here same;
}

-- one call more
pub goes_on : {A B C : Left → Left → Type 0} (t0 t1 t2 : ℕ) (x y z : ℕ → Left) → Passes t0 t1 x y A → Passes t1 t2 y z B
    → ((b : Left) → A (x t0) b → C (x t0) b) → ((c : Left) → A (x t0) (y t1) → B (y t1) c → C (x t0) c) → Passes t0 t2 x z C
goes_on {A} {B} {C} t0 t1 t2 x y z first then wide more = record {
  later = omega (arith, first.later, then.later);
  past = λ t le. then.past t (omega (arith, first.later)) ∙ first.past t le;
  during = λ t from to. elim (cases_lt t1 t) [
    | inl late ↦ more (z t) (first.during t1 first.later (omega arith)) (then.during t (omega (arith, late)) to)
    | inr early ↦ subst (λ s. C (x t0) s) (sym (then.past t early)) (wide (y t) (first.during t from early))
  ];
}

-- the same calls, of which less is said
pub wider : {A C : Left → Left → Type 0} (t0 t1 : ℕ) (x y : ℕ → Left) → Passes t0 t1 x y A
    → ((b : Left) → A (x t0) b → C (x t0) b) → Passes t0 t1 x y C
wider {A} {C} t0 t1 x y first wide = record {
  later = first.later;
  past = first.past;
  during = λ t from to. wide (y t) (first.during t from to);
}

-- what is so now
pub at_end : {A : Left → Left → Type 0} (t0 t1 : ℕ) (x y : ℕ → Left) → Passes t0 t1 x y A → A (x t0) (y t1)
at_end {A} t0 t1 x y p = p.during t1 p.later (omega arith)
