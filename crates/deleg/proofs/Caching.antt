-- Cached outcomes of examinations.
use Rattle.std.proofs.Common.{◌≡◌, ℕ, List, [], ◌∷◌, ◌++◌, Option, Some, None, IfSome, All, Result, Ok, slice_get, sym, ap, subst, ◌∙◌}
use Rattle.std.proofs.lemmas.List.Elements.{All-push}
use Rattle.std.specs.List.{IsAmong}
use Rattle.moment.specs.Moment.{Moment}
use Rattle.meta.specs.Metadata.{Root, Snapshot, Targets}
use Rattle.meta.specs.Content.{Part}
use Rattle.meta.specs.declared.fault.Fault.{Fault}
use Rattle.examine.specs.Checks.{Files}
use Rattle.rolechain.specs.Advance.{State}
use Rattle.deleg.specs.Search.{Edge}
use Rattle.deleg.specs.Cache.{Examination, RequireTheSame, by_edge, IsOutcomeOf, IsCacheOf, IsCacheIn, examination}
use Rattle.deleg.specs.declared.cache.RoleCache.{RoleCache}
use Rattle.deleg.specs.declared.cache.CachedRole.{CachedRole}

-- ---- what is cached

-- one more, or none
pub pushed : {X : Type 0} (P : X → Type 0) (xs ys : List X) (x y : X) → ys ≡ xs ++ x ∷ [] → x ≡ y → All P xs → P y → All P ys
pushed P xs ys x y is same all one = subst (All P) (sym is) (All-push P xs x all (subst P (sym same) one))

same_ok : (a b : Targets) → ◌≡◌ {A = Result Targets Fault} (Ok a) (Ok b) → a ≡ b
same_ok a b e = cc

same_part : (p q : Part Targets) → p.bytes ≡ q.bytes → p.reading ≡ q.reading → p ≡ q
same_part p q bytes reading =
    ap (λ (b : List ℕ). record { bytes = b; reading = p.reading }) bytes
    ∙ ap (λ (r : Targets). record { bytes = q.bytes; reading = r }) reading

-- equal bytes have equal readings
pub same_file : (form : List ℕ → Result Targets Fault) (p q : Part Targets) (a b : Targets) → form p.bytes ≡ Ok a → a ≡ p.reading → form q.bytes ≡ Ok b → b ≡ q.reading → p.bytes ≡ q.bytes → p ≡ q
same_file form p q a b read_p is_p read_q is_q same = same_part p q same (sym is_p ∙ same_ok a b (sym read_p ∙ ap form same ∙ read_q) ∙ is_q)

-- ---- what is found

module _ (x : Examination) where
  same_outcome : (a b : Edge) → RequireTheSame a b → by_edge x a ≡ by_edge x b
  same_outcome a b same =
      ap (λ name. x name a.ring a.keys) same.name
      ∙ ap (λ ring. x b.name ring a.keys) same.ring
      ∙ ap (λ keys. x b.name b.ring keys) same.keys

  carried : (cached : Result (Part Targets) Fault) (o : Option (Result (Part Targets) Fault)) (r : Result (Part Targets) Fault) → r ≡ cached → IfSome o (λ outcome. cached ≡ outcome) → IfSome o (λ outcome. r ≡ outcome)
  carried cached None r e h = h
  carried cached (Some outcome) r e h = e ∙ h

  pub found : (ks : List CachedRole) (k : CachedRole) (by asked : Edge) (o : Option (Result (Part Targets) Fault)) → All (λ k. IsOutcomeOf x k.by k.outcome) ks → IsAmong ks k → Some by ≡ slice_get k.by 0 → RequireTheSame by asked
      → IfSome o (λ outcome. k.outcome ≡ outcome) → IfSome o (λ outcome. by_edge x asked ≡ outcome)
  found ks k by asked o all among first same h =
      let here : IsOutcomeOf x k.by k.outcome = subst (λ (v : CachedRole). IsOutcomeOf x v.by v.outcome) (sym among.1.1) (all among.0 k among.1.0) in
      carried k.outcome o (by_edge x asked) (sym (same_outcome by asked same) ∙ here by first) h

  -- the first delegation is this one
  pub of_first : (by : List Edge) (e : Edge) (outcome : Result (Part Targets) Fault) → Some e ≡ slice_get by 0 → by_edge x e ≡ outcome → IsOutcomeOf x by outcome
  of_first by e outcome first is = λ f h. (let same : f ≡ e = cc in ap (by_edge x) same ∙ is)

-- ---- of a search, and of a trusted state

module _ (files : Files) (now : Moment) (t : State) (top : Root) (snap : Part Snapshot) (read : Snapshot) (cache : RoleCache)
    (root_is : top ≡ t.root.reading) (snap_is : Some snap ≡ t.snapshot) (read_is : read ≡ snap.reading) where
  pub from_state : IsCacheIn files now t cache → IsCacheOf (examination files now top read) cache
  from_state all =
      subst (λ (r : Root). IsCacheOf (examination files now r read) cache) (sym root_is)
      (subst (λ (s : Snapshot). IsCacheOf (examination files now t.root.reading s) cache) (sym read_is) (all snap (sym snap_is)))

  pub to_state : IsCacheOf (examination files now top read) cache → IsCacheIn files now t cache
  to_state all = λ s is.
      (let same : snap ≡ s = cc in
      subst (λ (p : Part Snapshot). IsCacheOf (examination files now t.root.reading p.reading) cache) same
      (subst (λ (r : Snapshot). IsCacheOf (examination files now t.root.reading r) cache) read_is
      (subst (λ (r : Root). IsCacheOf (examination files now r read) cache) root_is all)))
