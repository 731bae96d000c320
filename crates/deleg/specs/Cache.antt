-- What is cached of the roles that searches examined.
use Rattle.std.specs.Prelude.{◌≡◌, ℕ, List, Some, Result, All, slice_get}
use Rattle.meta.specs.Metadata.{Key, RoleKeys, Targets}
use Rattle.examine.specs.Checks.{file_in, Moment, Root, Snapshot, Part, Fault, Files, targets_part}
use Rattle.rolechain.specs.Advance.{State, due_targets}
use Rattle.deleg.specs.Search.{Edge}
use Rattle.deleg.specs.declared.query.Query.{Query}
use Rattle.deleg.specs.declared.cache.RoleCache.{RoleCache}

-- the outcome for a role of that name, if a delegation requires these of these keys
abbrev pub Examination : Type 0
Examination = List ℕ → List Key → RoleKeys → Result (Part Targets) Fault

abbrev pub by_edge : Examination → Edge → Result (Part Targets) Fault
by_edge x e = x e.name e.ring e.keys

-- in a repository's files, at a moment, below a root and a snapshot
abbrev pub examination : Files → Moment → Root → Snapshot → Examination
examination files now top snap name ring keys =
    targets_part (due_targets top snap name ring keys) files now

-- the outcome for the first one of these delegations
abbrev pub IsOutcomeOf : Examination → List Edge → Result (Part Targets) Fault → Type 0
IsOutcomeOf x by outcome = (e : Edge) → Some e ≡ slice_get by 0 → by_edge x e ≡ outcome

-- each cached outcome is that of this examination
abbrev pub IsCacheOf : Examination → RoleCache → Type 0
IsCacheOf x cache = All (λ r. IsOutcomeOf x r.by r.outcome) cache.roles.items

-- in these files, at that moment, below that trusted state
abbrev pub IsCacheIn : Files → Moment → State → RoleCache → Type 0
IsCacheIn files now s cache = (snapshot : Part Snapshot) → s.snapshot ≡ Some snapshot
    → IsCacheOf (examination files now s.root.reading snapshot.reading) cache

-- the examination of a search
abbrev pub examination_in : Query → Examination
examination_in q =
    examination (file_in q.context.files.now) q.context.moment q.root.now q.snapshot.now

-- two delegations require one file: to a role of one name, by the same of the same keys
pub record RequireTheSame (a b : Edge) : Type 0 where
  pub name : a.name ≡ b.name
  pub ring : a.ring ≡ b.ring
  pub keys : a.keys ≡ b.keys
