-- A target's file among those that were seen.
use Rattle.std.proofs.Common.{◌≡◌, ℕ, List, [], ◌∷◌, Bool, true, false, ◌||◌, not, nat_lt, if◌then◌else◌, length, Option, None, Some, is_some, IfSome, find, option_and_then, option_map, refl, sym, ◌∙◌, ap, subst}
use Rattle.std.specs.BTreeMap.{get_by_text}
use Rattle.sha2.specs.Sha256.{sha256}
use Rattle.sha2.specs.Sha512.{sha512}
use Rattle.examine.specs.Checks.{target_names}
use Rattle.cycle.specs.Workflow.{Target}
use Rattle.folder.specs.Seen.{Seen, Start, is_named}
use Rattle.folder.specs.declared.measure.Measure.{Measure}
use Rattle.folder.specs.declared.measure.Need.{Need}
use Rattle.measured.specs.Closed.{IsKnownOf, IsOfStart, seen_file, measure_for, measure_with, seen_name, seen_at}
use Rattle.measured.specs.Known.{covers, listed_of, place}
use Rattle.measured.specs.declared.known.Known.{Known}
use Rattle.measured.specs.declared.known.Wanted.{Wanted}
use Rattle.measured.proofs.Covering.{second_of_three, third_of_three}

-- ---- the name

pick : (a b : Bool) (name : List ℕ) (x y : Option (List ℕ)) → a ≡ b → x ≡ y → (if a then Some name else x) ≡ (if b then Some name else y)
pick true true name x y e h = refl
pick true false name x y e h = absurd (cc)
pick false true name x y e h = absurd (cc)
pick false false name x y e h = h

same_find : (p q : List ℕ → Bool) (names : List (List ℕ)) → ((name : List ℕ) → p name ≡ q name) → find p names ≡ find q names
same_find p q [] same = refl
same_find p q (name ∷ names) same = pick (p name) (q name) name (find p names) (find q names) (same name) (same_find p q names same)

name_is : (k : Known) (s : Seen) (consistent : Bool) (t : Target) → IsKnownOf s k → place k consistent t ≡ seen_name s consistent t
name_is k s consistent t known =
    same_find (λ name. is_some (get_by_text k.files name)) (is_named s.names) (target_names consistent t.path t.hashes.sha256 t.hashes.sha512) known.names

-- the file isn't there
pub none : (k : Known) (consistent : Bool) (t : Target) → place k consistent t ≡ None → (s : Seen) → IsKnownOf s k → None ≡ seen_file s consistent t
none k consistent t is s known = ap (option_and_then (seen_at s t)) (sym is ∙ name_is k s consistent t known)

-- ---- the measure

-- a digest that is listed is one that was needed
one_digest : (is_listed is_needed : Bool) (digest : List ℕ) → (not is_listed || is_needed) ≡ true
    → (if is_listed then (if is_needed then Some digest else None) else None) ≡ (if is_listed then Some digest else None)
one_digest true true digest h = refl
one_digest true false digest h = absurd (cc)
one_digest false is_needed digest h = refl

abbrev made : ℕ → Option (List ℕ) → Option (List ℕ) → Measure
made n a b = record { length = n; sha256 = a; sha512 = b }

measure_is : (need : Need) (t : Target) (bytes : List ℕ) → covers need t ≡ true → listed_of t (measure_with need.sha256 need.sha512 bytes) ≡ measure_for t bytes
measure_is need t bytes covered =
    let a = nat_lt t.length need.up_to in
    let b = not (is_some t.hashes.sha256) || need.sha256 in
    let c = not (is_some t.hashes.sha512) || need.sha512 in
    ap (λ d. made (length bytes) d (if is_some t.hashes.sha512 then (if need.sha512 then Some (sha512 bytes) else None) else None))
    (one_digest (is_some t.hashes.sha256) need.sha256 (sha256 bytes) (second_of_three a b c covered))
    ∙ ap (made (length bytes) (if is_some t.hashes.sha256 then Some (sha256 bytes) else None))
    (one_digest (is_some t.hashes.sha512) need.sha512 (sha512 bytes) (third_of_three a b c covered))

abbrev pub named : List ℕ → Measure → List ℕ × Measure
named name m = (name, m)

read_is : (name : List ℕ) (need : Need) (m : Measure) (read : Option Start) (t : Target) → IsOfStart need m read → covers need t ≡ true
    → Some (named name (listed_of t m)) ≡ option_map (λ (r : Start). named name (measure_for t r.bytes)) read
read_is name need m None t h covered = absurd h
read_is name need m (Some r) t h covered = ap (λ (n : Measure). Some (named name n)) (ap (listed_of t) h.1 ∙ measure_is need t r.bytes covered)

-- the file is there, and was measured as far as it is needed
pub found : (k : Known) (consistent : Bool) (t : Target) (name : List ℕ) (w : Wanted) (m : Measure)
    → place k consistent t ≡ Some name → get_by_text k.files name ≡ Some (Some w) → w.measure ≡ Some m → covers w.need t ≡ true
    → (s : Seen) → IsKnownOf s k → Some (named name (listed_of t m)) ≡ seen_file s consistent t
found k consistent t name w m is at measured covered s known =
    read_is name w.need m (s.read name) t
    (subst (λ o. IfSome o (λ m. IsOfStart w.need m (s.read name))) measured
    (subst (λ o. IfSome o (λ v. IfSome v (λ w. IfSome w.measure (λ m. IsOfStart w.need m (s.read name))))) at (known.measures name)))
    covered
    ∙ ap (option_and_then (seen_at s t)) (sym is ∙ name_is k s consistent t known)
