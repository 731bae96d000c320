-- The chain of roots, a root at a time.
use Rattle.std.proofs.Common.{◌≡◌, ℕ, zero, suc, Option, Some, None, Result, Ok, Err, ◌<◌, ◌+◌, refl, sym, ap, ◌∙◌, subst, arith}
use Rattle.std.specs.Option.{option_map_or}
use Rattle.cjson.specs.Document.{◌>>=◌}
use Rattle.moment.specs.Moment.{Moment}
use Rattle.meta.specs.Metadata.{Root}
use Rattle.meta.specs.Content.{Part}
use Rattle.meta.specs.declared.fault.Fault.{Fault}
use Rattle.examine.specs.Checks.{Files}
use Rattle.rolechain.specs.Advance.{State, Advanced, or_stop, with_root, successor, followed, Leaves}
use Rattle.rolechain.specs.declared.end.Step.TheVariants as step
use Rattle.rolechain.specs.declared.end.Halt.{Halt}

module _ (files : Files) (now : Moment) where
  -- the state with the next root and those after it, at most `n`
  abbrev pub onward : ℕ → State → Option (Part Root) → Result State Advanced
  onward n s next = option_map_or (λ next. followed files n (with_root s next)) next (Ok s)

  -- what follows the result for the next root, with `n` roots to go after it
  abbrev pub behind : ℕ → State → Result (Option (Part Root)) Fault → Result State Advanced
  behind n s next = or_stop s step.Root next >>= onward n s

  followed-zero : (s : State) → followed files zero s ≡ Ok s
  unfolding followed
  followed-zero s = refl

  followed-suc : (n : ℕ) (s : State) → followed files (suc n) s ≡ behind n s (successor files s.root.reading)
  unfolding followed
  followed-suc n s = refl

  -- with `n` roots to go, at least one, the chain ended
  at_end : (n : ℕ) (s : State) → 0 < n → successor files s.root.reading ≡ Ok None → followed files n s ≡ Ok s
  at_end zero s h r = absurd (omega arith)
  at_end (suc n) s h r = followed-suc n s ∙ ap (behind n s) r

  -- or the next root stops it
  at_stop : (n : ℕ) (s : State) (why : Halt) → 0 < n → ((m : ℕ) → Leaves (behind m s (successor files s.root.reading)) (Err why) s) → Leaves (followed files n s) (Err why) s
  at_stop zero s why h stop = absurd (omega arith)
  at_stop (suc n) s why h stop = subst (λ r. Leaves r (Err why) s) (sym (followed-suc n s)) (stop n)

  at_full : (n : ℕ) (s : State) → n ≡ 0 → followed files n s ≡ Ok s
  at_full zero s h = followed-zero s
  at_full (suc n) s h = absurd (omega arith)

  -- what is left of a chain of `all` roots that began at `from`
  pub record ToGo (all : ℕ) (from : State) (done : ℕ) (s : State) : Type 0 where
    pub left : ℕ
    pub counted : done + left ≡ all
    pub same : followed files all from ≡ followed files left s

  pub begins : (all : ℕ) (s : State) → ToGo all s 0 s
  begins all s = record { left = all; counted = omega arith; same = refl }

  more_at : (all : ℕ) (from : State) (done : ℕ) (s : State) (p : Part Root) (n : ℕ) → done < all → done + n ≡ all → successor files s.root.reading ≡ Ok (Some p)
      → followed files all from ≡ followed files n s → ToGo all from (done + 1) (with_root s p)
  more_at all from done s p zero h e r q = absurd (omega arith)
  more_at all from done s p (suc n) h e r q = record {
    left = n;
    counted = omega arith;
    same = q ∙ followed-suc n s ∙ ap (behind n s) r;
  }

  -- a root was accepted
  pub more : (all : ℕ) (from : State) (done : ℕ) (s : State) (p : Part Root) → done < all → successor files s.root.reading ≡ Ok (Some p)
      → ToGo all from done s → ToGo all from (done + 1) (with_root s p)
  more all from done s p h r t = more_at all from done s p t.left h t.counted r t.same

  pub refused : (all : ℕ) (from : State) (done : ℕ) (s : State) (why : Halt) → done < all → ((m : ℕ) → Leaves (behind m s (successor files s.root.reading)) (Err why) s)
      → ToGo all from done s → Leaves (followed files all from) (Err why) s
  refused all from done s why h stop t = subst (λ r. Leaves r (Err why) s) (sym t.same) (at_stop t.left s why (omega (arith, t.counted)) stop)

  pub ends : (all : ℕ) (from : State) (done : ℕ) (s : State) → done < all → successor files s.root.reading ≡ Ok None
      → ToGo all from done s → followed files all from ≡ Ok s
  ends all from done s h r t = t.same ∙ at_end t.left s (omega (arith, t.counted)) r

  pub full : (all : ℕ) (from : State) (done : ℕ) (s : State) → all ≡ done
      → ToGo all from done s → followed files all from ≡ Ok s
  full all from done s h t = t.same ∙ at_full t.left s (omega (arith, t.counted))
