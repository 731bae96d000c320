-- The parts of a list, one after another.
use Rattle.std.proofs.Common.{◌≡◌, refl, ℕ, zero, suc, ◌+◌, ◌-◌, ◌<◌, ◌++◌, List, [], ◌∷◌, length, take, drop, slice_index, Bool, true, false, ◌&&◌, ◌==◌, None, Some, append-nil, arith}
use Rattle.std.proofs.lemmas.Bool.{and_parts, false_from_ne_true}
use Rattle.std.proofs.lemmas.Bool.Decides.{nat_tests}
use Rattle.std.proofs.lemmas.Grind.{common_steps}
use Rattle.std.proofs.lemmas.Str.{IsUtf8-from_is_utf8, is_utf8-from_IsUtf8}
use Rattle.std.specs.List.{list_all}
use Rattle.std.specs.Str.{IsUtf8}
use Rattle.paths.specs.Lists.{is_path, parts, paths_of}

other_byte : (byte mark : ℕ) → ((byte == mark) ≡ true → ⊥) → (byte == mark) ≡ false
other_byte byte mark isnt = grind (arith, nat_tests)

-- the part before the first mark
cut : (mark : ℕ) (bytes : List ℕ) (k : ℕ) → k < length bytes → (slice_index bytes k == mark) ≡ true
    → ((j : ℕ) → j < k → ((slice_index bytes j == mark) ≡ true → ⊥)) → parts mark bytes ≡ take k bytes ∷ parts mark (drop (suc k) bytes)
unfolding parts
cut mark [] k less at before = absurd (omega arith)
cut mark (byte ∷ more) zero less at before = rw at refl
cut mark (byte ∷ more) (suc k) less at before =
    rw (other_byte byte mark (before 0 (omega arith)), cut mark more k (omega arith) at (λ j lt. before (suc j) (omega arith))) refl

-- the same, as slices of the list
pub cut_at : (mark : ℕ) (bytes : List ℕ) (k : ℕ) → k < length bytes → (slice_index bytes k == mark) ≡ true
    → ((j : ℕ) → j < k → ((slice_index bytes j == mark) ≡ true → ⊥))
    → parts mark bytes ≡ take k bytes ∷ parts mark (take (length bytes - (k + 1)) (drop (k + 1) bytes))
cut_at mark bytes k less at before =
    let next : k + 1 ≡ suc k = omega arith in
    let whole : take (length bytes - (k + 1)) (drop (k + 1) bytes) ≡ drop (k + 1) bytes = grind (arith, common_steps) in
    rw (whole, next) (cut mark bytes k less at before)

-- the only part, if there is no mark
pub uncut : (mark : ℕ) (bytes : List ℕ) → 0 < length bytes → ((j : ℕ) → j < length bytes → ((slice_index bytes j == mark) ≡ true → ⊥))
    → parts mark bytes ≡ bytes ∷ parts mark []
unfolding parts
uncut mark [] some none = absurd (omega arith)
uncut mark (byte ∷ []) some none = rw (other_byte byte mark (none 0 (omega arith))) refl
uncut mark (byte ∷ next ∷ more) some none =
    rw (other_byte byte mark (none 0 (omega arith)), uncut mark (next ∷ more) (omega arith) (λ j lt. none (suc j) (omega arith))) refl

pub no_parts : (mark : ℕ) (bytes : List ℕ) → length bytes ≡ 0 → parts mark bytes ≡ []
unfolding parts
no_parts mark [] none = refl
no_parts mark (byte ∷ more) none = absurd (omega arith)

-- ---- which parts are paths

pub path_is : (bytes : List ℕ) → (length bytes == 0) ≡ false → IsUtf8 bytes → is_path bytes ≡ true
path_is bytes some utf8 = rw (some, is_utf8-from_IsUtf8 bytes utf8) refl

pub empty_isnt : (bytes : List ℕ) → (length bytes == 0) ≡ true → is_path bytes ≡ false
empty_isnt bytes none = rw none refl

pub odd_isnt : (bytes : List ℕ) → ¬ IsUtf8 bytes → is_path bytes ≡ false
odd_isnt bytes odd = false_from_ne_true _ (λ is. odd (IsUtf8-from_is_utf8 bytes (and_parts _ _ is).1))

and_false : (b : Bool) → (b && false) ≡ false
and_false true = refl
and_false false = refl

fails_at : (done more : List (List ℕ)) (part : List ℕ) → is_path part ≡ false → list_all is_path (done ++ part ∷ more) ≡ false
fails_at [] more part bad = rw bad refl
fails_at (p ∷ done) more part bad = rw (fails_at done more part bad) (and_false (is_path p))

-- ---- the paths of a list

pub no_paths : (mark : ℕ) (bytes : List ℕ) (done more left : List (List ℕ)) (part : List ℕ)
    → parts mark bytes ≡ done ++ left → left ≡ part ∷ more → is_path part ≡ false → None ≡ paths_of mark bytes
unfolding paths_of
no_paths mark bytes done more left part are first bad = rw (are, first, fails_at done more part bad) refl

pub all_paths : (mark : ℕ) (bytes : List ℕ) (done left : List (List ℕ))
    → list_all is_path done ≡ true → parts mark bytes ≡ done ++ left → left ≡ [] → Some done ≡ paths_of mark bytes
unfolding paths_of
all_paths mark bytes done left are all none = rw (all, none, append-nil done, are) refl
