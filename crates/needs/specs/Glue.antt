-- Names that are collected, for the contracts of private functions.
use Rattle.std.specs.Prelude.{◌≡◌, ℕ, List, ◌∷◌, Bool, true, false, if◌then◌else◌, bytes_eq, ⊤, String}
use Rattle.std.specs.BTreeMap.{BTreeMap}
use Rattle.std.specs.declared.alloc.Global.{Global}
use Rattle.needs.specs.Needs.{is_in, is_needed}
use Rattle.needs.specs.declared.once.Once.{Once}

-- the name with a mark, `?` or `!`, for whether the file is optional
abbrev pub key : Bool → List ℕ → List ℕ
key optional name = (if optional then 63 else 33) ∷ name

-- the keys are those of the files
abbrev pub IsOnce : Once → Type 0
IsOnce o = (optional : Bool) (name : List ℕ)
    → is_in o.keys (key optional name) ≡ is_needed o.needs.items optional name

-- the name is there too, and every other one as it was
pub record Puts (name : List ℕ) (old new : BTreeMap (String Global) ⊤) : Type 0 where
  pub there : is_in new name ≡ true
  pub others : (other : List ℕ) → bytes_eq name other ≡ false → is_in new other ≡ is_in old other
