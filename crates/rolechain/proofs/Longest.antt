-- The last root that a cycle trusts is the last of the longest chain.
use Rattle.std.proofs.Common.{◌≡◌, ℕ, zero, suc, Bool, true, false, Option, Some, None, Result, Ok, Err, inl, inr, refl, sym, ap, ◌∙◌, subst, arith}
use Rattle.std.specs.Prelude.{if◌then◌else◌}
use Rattle.cjson.specs.Document.{◌>>=◌}
use Rattle.moment.specs.Moment.{Moment}
use Rattle.meta.specs.Metadata.{Root, Timestamp}
use Rattle.meta.specs.Content.{Part}
use Rattle.meta.specs.declared.fault.Fault.{Fault}
use Rattle.examine.specs.Checks.{Files, expiry_check}
use Rattle.rolechain.specs.Advance.{State, Advanced, or_stop, is_rotated, with_root, with_newer, with_snapshot, with_targets, successor, followed, most_roots, unexpired, root_step, newer_timestamp, timestamp_step, listed_snapshot, snapshot_step, listed_targets, targets_step, steps, ended, advanced, IsLongestChain, IsRootStep}
use Rattle.rolechain.specs.declared.end.Halt.TheVariants as halt
use Rattle.rolechain.specs.declared.end.Step.{Step}
use Rattle.rolechain.specs.declared.end.Step.TheVariants as step
use Rattle.rolechain.proofs.Chain.{behind}

root_of_rotated : (b : Bool) (s t : State) (r : Part Root) → s.root ≡ r → t.root ≡ r → (if b then s else t).root ≡ r
root_of_rotated true s t r p q = p
root_of_rotated false s t r p q = q

pub with_root-root : (s : State) (r : Part Root) → (with_root s r).root ≡ r
with_root-root s r = root_of_rotated (is_rotated s.root.reading r.reading) _ _ r refl refl

newer-root : (s : State) (o : Option (Part Timestamp)) → s.root ≡ (with_newer s o).root
newer-root s None = refl
newer-root s (Some p) = refl

-- ---- a step that leaves the root

abbrev Keeps : Part Root → Result State Advanced → Type 0
Keeps r (Ok s) = r ≡ s.root
Keeps r (Err a) = r ≡ a.state.root

keeps-next : (r : Part Root) (o : Result State Advanced) (f : State → Result State Advanced) → Keeps r o → ((s : State) → Keeps s.root (f s)) → Keeps r (o >>= f)
keeps-next r (Ok s) f h more = subst (λ a. Keeps a (f s)) (sym h) (more s)
keeps-next r (Err a) f h more = h

keeps-checked : {A : Type 0} (s : State) (at : Step) (r : Result A Fault) (f : A → State) → ((x : A) → s.root ≡ (f x).root)
    → Keeps s.root (or_stop s at r >>= λ x. Ok (f x))
keeps-checked s at (Ok x) f same = same x
keeps-checked s at (Err fault) f same = refl

module _ (files : Files) (now : Moment) where
  unexpired-keeps : (s : State) → Keeps s.root (unexpired files now s)
  unexpired-keeps s = keeps-checked s step.Root (expiry_check s.root.reading.header now) (λ x. s) (λ x. refl)

  timestamp_step-keeps : (s : State) → Keeps s.root (timestamp_step files now s)
  timestamp_step-keeps s = keeps-checked s step.Timestamp (newer_timestamp files now s.root.reading s.timestamp) (with_newer s) (newer-root s)

  snapshot_step-keeps : (s : State) → Keeps s.root (snapshot_step files now s)
  snapshot_step-keeps s = keeps-checked s step.Snapshot (listed_snapshot files now s) (with_snapshot s) (λ p. refl)

  targets_step-keeps : (s : State) → Keeps s.root (targets_step files now s)
  targets_step-keeps s = keeps-checked s step.Targets (listed_targets files now s) (with_targets s) (λ p. refl)

  -- ---- the chain

  abbrev Longest : ℕ → Part Root → Result State Advanced → Type 0
  Longest most a (Ok s) = IsLongestChain files most a s.root
  Longest most a (Err x) = IsLongestChain files most a x.state.root

  longest-kept : (most : ℕ) (a b : Part Root) (o : Result State Advanced) → Keeps b o → IsLongestChain files most a b → Longest most a o
  longest-kept most a b (Ok s) h chain = subst (IsLongestChain files most a) h chain
  longest-kept most a b (Err x) h chain = subst (IsLongestChain files most a) h chain

  longest-next : (most : ℕ) (a : Part Root) (o : Result State Advanced) (f : State → Result State Advanced) → Longest most a o → ((s : State) → Keeps s.root (f s)) → Longest most a (o >>= f)
  longest-next most a (Ok s) f chain more = longest-kept most a s.root (f s) (more s) chain
  longest-next most a (Err x) f chain more = chain

  longer : (most : ℕ) (a next b : Part Root) → IsRootStep files a next → IsLongestChain files most next b → IsLongestChain files (suc most) a b
  longer most a next b first rest = (
    suc rest.0,
    omega arith,
    (next, first, rest.2),
    elim rest.3 [
      | inl full ↦ inl (ap suc full)
      | inr last ↦ inr last
    ],
  )

  longer-after : (most : ℕ) (a next : Part Root) (o : Result State Advanced) → IsRootStep files a next → Longest most next o → Longest (suc most) a o
  longer-after most a next (Ok s) first rest = longer most a next s.root first rest
  longer-after most a next (Err x) first rest = longer most a next x.state.root first rest

  -- no root step leads on from a root that has no accepted successor
  no_step : (o : Result (Option (Part Root)) Fault) (a next : Part Root) → successor files a.reading ≡ o → ((p : Part Root) → o ≡ Ok (Some p) → ⊥) → ¬ IsRootStep files a next
  no_step o a next e none h = none next (sym e ∙ h)

  ends_here : (most : ℕ) (s : State) (o : Result (Option (Part Root)) Fault) → successor files s.root.reading ≡ o → ((p : Part Root) → o ≡ Ok (Some p) → ⊥) → IsLongestChain files most s.root s.root
  ends_here most s o e none = (0, omega arith, refl, inr (λ next. no_step o s.root next e none))

  behind-longest : (most : ℕ) (s : State) (o : Result (Option (Part Root)) Fault) → successor files s.root.reading ≡ o
      → ((t : State) → Longest most t.root (followed files most t)) → Longest (suc most) s.root (behind files now most s o)
  behind-longest most s (Ok None) e more = ends_here (suc most) s (Ok None) e (λ p h. cc)
  behind-longest most s (Ok (Some r)) e more = longer-after most s.root r _ e (subst (λ a. Longest most a (followed files most (with_root s r))) (with_root-root s r) (more (with_root s r)))
  behind-longest most s (Err fault) e more = ends_here (suc most) s (Err fault) e (λ p h. cc)

  followed-longest : (most : ℕ) (s : State) → Longest most s.root (followed files most s)
  unfolding followed
  followed-longest zero s = (0, omega arith, refl, inl refl)
  followed-longest (suc most) s = behind-longest most s (successor files s.root.reading) refl (followed-longest most)

  -- ---- the whole

  later-keeps : (s : State) → Keeps s.root (timestamp_step files now s >>= λ t. snapshot_step files now t >>= targets_step files now)
  later-keeps s = keeps-next s.root (timestamp_step files now s) _ (timestamp_step-keeps s)
      (λ t. keeps-next t.root (snapshot_step files now t) (targets_step files now) (snapshot_step-keeps t) targets_step-keeps)

  steps-longest : (s : State) → Longest most_roots s.root (steps files now s)
  unfolding steps
  steps-longest s = longest-next most_roots s.root (root_step files now s) _
      (longest-next most_roots s.root (followed files most_roots s) (unexpired files now) (followed-longest most_roots s) unexpired-keeps)
      later-keeps

  ended-longest : (most : ℕ) (a : Part Root) (o : Result State Advanced) → Longest most a o → IsLongestChain files most a (ended o).state.root
  ended-longest most a (Ok s) chain = chain
  ended-longest most a (Err x) chain = chain

pub advanced-longest : (files : Files) (now : Moment) (s : State) → IsLongestChain files most_roots s.root (advanced files now s).state.root
advanced-longest files now s = ended-longest files now most_roots s.root (steps files now s) (steps-longest files now s)
