-- Files that are seen in a folder.
use Rattle.std.proofs.Common.{◌≡◌, ℕ, List, [], take, Bool, true, false, ◌&&◌, Option, unwrap_or, refl, None, Some, is_some, IfSome, option_map, String, Vec, sym, ◌∙◌, ap, le_refl, take-take}
use Rattle.std.specs.BTreeMap.{get_by_text, BTreeMap}
use Rattle.folder.specs.Seen.{AreSeen, IsStartOf, MayBeSeen, Seen, Start, is_named}

-- ---- there are always files that fit what was seen

-- the bytes that were read, or none for a file that was not read
fill : Bool → Option Start → Option (List ℕ)
fill true o = Some (unwrap_or (option_map (λ r. r.bytes) o) [])
fill false o = None

there : (b : Bool) (o : Option Start) → is_some (fill b o) ≡ b
unfolding fill
there true o = refl
there false o = refl

as_read : (test : List ℕ → Bool) (b : Bool) (o : Option Start) → IfSome o (λ _. b ≡ true) → IfSome o (λ r. IsStartOf test r.up_to r.bytes)
    → IfSome o (λ r. option_map (take r.up_to) (fill b o) ≡ Some r.bytes)
unfolding fill
as_read test b None named held = tt
as_read test true (Some r) named held = ap Some (ap (take r.up_to) held.2 ∙ take-take r.up_to r.up_to held.0 (le_refl r.up_to) ∙ sym held.2)
as_read test false (Some r) named held = absurd (cc)

pub some_are_seen : (lists : List (List ℕ) → Bool) (holds : List ℕ → List ℕ → Bool) (s : Seen) → MayBeSeen lists holds s
    → (files : List ℕ → Option (List ℕ)) × AreSeen s files
some_are_seen lists holds s may = (
  λ name. fill (is_named s.names name) (s.read name),
  record {
    names = λ name. there (is_named s.names name) (s.read name);
    bytes = λ name. as_read (holds name) (is_named s.names name) (s.read name) (may.named name) (may.held name);
  },
)
