-- The path of a name is the path that has the name.
use Rattle.std.proofs.Common.{◌≡◌, ◌∙◌, ◌<◌, ◌*◌, ℕ, zero, suc, Bool, true, false, ◌||◌, ◌/◌, ◌%◌, List, [], ◌∷◌, ◌++◌, ◌==◌, add-one, ap, arith, drop, length, map, refl, slice_index, subst, sym, take, Option, Some, None, IfSome}
use Rattle.std.proofs.lemmas.Bool.{agree_below_at, and_parts, or_right}
use Rattle.std.proofs.lemmas.Bool.Decides.{nat_tests}
use Rattle.std.proofs.lemmas.Grind.{common_steps}
use Rattle.std.specs.List.{Contains, list_all, list_any, position_or_len}
use Rattle.hex.specs.Hex.{IsBytes, encode_lower, encode_with, lower_digits}
use Rattle.hex.proofs.HexLemmas.{length-encode_with}
use Rattle.meta.specs.Content.{has_slash, hashed, target_names}
use Rattle.meta.specs.Patterns.{is_lower_digit}
use Rattle.paths.proofs.Naming.{contains_map}
use Rattle.paths.specs.Names.{AreOnceInOrder, HasEachTarget, IsDigest, is_dot, is_hash, path_in, path_of, unhashed}

-- ---- digits

digit_isnt_dot : (c : ℕ) → is_lower_digit c ≡ true → is_dot c ≡ false
digit_isnt_dot c is = grind (arith, nat_tests)

digit_isnt_slash : (c : ℕ) → is_lower_digit c ≡ true → (c == 47) ≡ false
digit_isnt_slash c is = grind (arith, nat_tests)

first_dot : (hash rest : List ℕ) → list_all is_lower_digit hash ≡ true → position_or_len is_dot (hash ++ 46 ∷ rest) ≡ length hash
first_dot [] rest are = refl
first_dot (c ∷ hash) rest are =
    let parts = and_parts _ _ are in rw (digit_isnt_dot c parts.0, first_dot hash rest parts.1) (omega arith)

some_dot : (hash rest : List ℕ) → list_any is_dot (hash ++ 46 ∷ rest) ≡ true
some_dot [] rest = refl
some_dot (c ∷ hash) rest = or_right (is_dot c) _ (some_dot hash rest)

slash_behind : (hash rest : List ℕ) → list_all is_lower_digit hash ≡ true → has_slash (hash ++ 46 ∷ rest) ≡ has_slash rest
slash_behind [] rest are = refl
slash_behind (c ∷ hash) rest are =
    let parts = and_parts _ _ are in rw (digit_isnt_slash c parts.0) (slash_behind hash rest parts.1)

take_all : (xs ys : List ℕ) → take (length xs) (xs ++ ys) ≡ xs
take_all xs ys = grind (arith, common_steps)

drop_all : (xs ys : List ℕ) (y : ℕ) → drop (suc (length xs)) (xs ++ y ∷ ys) ≡ ys
drop_all [] ys y = refl
drop_all (x ∷ xs) ys y = drop_all xs ys y

-- ---- names

unhashed_name : (hash rest : List ℕ) → list_all is_lower_digit hash ≡ true → is_hash hash ≡ true → unhashed (hash ++ 46 ∷ rest) ≡ rest
unhashed_name hash rest are is =
    rw (some_dot hash rest, first_dot hash rest are, take_all hash (46 ∷ rest), is, add-one) (drop_all hash rest 46)

unslashed : (name : List ℕ) → has_slash name ≡ false → path_in name ≡ unhashed name
unslashed [] none = refl
unslashed (c ∷ name) none = rw none refl

slash_kept : (hash path : List ℕ) → list_all is_lower_digit hash ≡ true → has_slash (hashed hash path) ≡ has_slash path
slash_kept hash [] are = slash_behind hash [] are
slash_kept hash (c ∷ path) are = by (has_slash (c ∷ path)) refl (slash_kept hash path are)
  where
    by : (b : Bool) → has_slash (c ∷ path) ≡ b → has_slash (hashed hash path) ≡ has_slash path → has_slash (hashed hash (c ∷ path)) ≡ has_slash (c ∷ path)
    by true e kept =
        let step : hashed hash (c ∷ path) ≡ c ∷ hashed hash path = rw e refl in
        ap has_slash step ∙ ap (λ b. (c == 47) || b) kept
    by false e kept =
        let step : hashed hash (c ∷ path) ≡ hash ++ 46 ∷ c ∷ path = rw e refl in
        ap has_slash step ∙ slash_behind hash (c ∷ path) are

named : (hash path : List ℕ) → list_all is_lower_digit hash ≡ true → is_hash hash ≡ true → path_in (hashed hash path) ≡ path
named hash [] are is = unslashed (hash ++ 46 ∷ []) (slash_behind hash [] are) ∙ unhashed_name hash [] are is
named hash (c ∷ path) are is = by (has_slash (c ∷ path)) refl (named hash path are is)
  where
    by : (b : Bool) → has_slash (c ∷ path) ≡ b → path_in (hashed hash path) ≡ path → path_in (hashed hash (c ∷ path)) ≡ c ∷ path
    by true e rest =
        let step : hashed hash (c ∷ path) ≡ c ∷ hashed hash path = rw e refl in
        let there : has_slash (c ∷ hashed hash path) ≡ true = ap (λ b. (c == 47) || b) (slash_kept hash path are) ∙ e in
        let inner : path_in (c ∷ hashed hash path) ≡ c ∷ path_in (hashed hash path) = rw there refl in
        ap path_in step ∙ inner ∙ ap (λ l. c ∷ l) rest
    by false e rest =
        let step : hashed hash (c ∷ path) ≡ hash ++ 46 ∷ c ∷ path = rw e refl in
        ap path_in step ∙ unslashed (hash ++ 46 ∷ c ∷ path) (slash_behind hash (c ∷ path) are ∙ e) ∙ unhashed_name hash (c ∷ path) are is

-- ---- names under a digest

digit_of : (n : ℕ) → n < 16 → is_lower_digit (slice_index lower_digits n) ≡ true
digit_of n low = agree_below_at (λ n. is_lower_digit (slice_index lower_digits n)) (λ _. true) 16 n refl low

encoded : (bytes : List ℕ) → IsBytes bytes → list_all is_lower_digit (encode_lower bytes) ≡ true
unfolding encode_with
encoded [] are = refl
encoded (b ∷ rest) are =
    let low = are 0 in
    rw (digit_of (b / 16) (omega arith), digit_of (b % 16) (omega arith)) (encoded rest (λ k. are (suc k)))

of_digest : (n : ℕ) (digest path : List ℕ) → IsDigest n digest → (2 * n == 64 || 2 * n == 128) ≡ true → path_in (hashed (encode_lower digest) path) ≡ path
unfolding is_hash
of_digest n digest path is size =
    let long : length (encode_lower digest) ≡ 2 * n = length-encode_with lower_digits digest ∙ ap (λ k. 2 * k) is.1 in
    let digits = encoded digest is.0 in
    named (encode_lower digest) path digits (rw (long, size) digits)

target_path : (consistent : Bool) (path name : List ℕ) (sha256 sha512 : Option (List ℕ)) → IfSome sha256 (IsDigest 32) → IfSome sha512 (IsDigest 64)
    → Contains (target_names consistent path sha256 sha512) name → path_of consistent name ≡ path
target_path false path name sha256 sha512 a b (zero, low, is) = sym is
target_path false path name sha256 sha512 a b (suc k, low, is) = absurd (omega arith)
target_path true path name None None a b (k, low, is) = absurd (omega arith)
target_path true path name (Some d) None a b (zero, low, is) = subst (λ n. path_in n ≡ path) is (of_digest 32 d path a refl)
target_path true path name (Some d) None a b (suc k, low, is) = absurd (omega arith)
target_path true path name None (Some e) a b (zero, low, is) = subst (λ n. path_in n ≡ path) is (of_digest 64 e path b refl)
target_path true path name None (Some e) a b (suc k, low, is) = absurd (omega arith)
target_path true path name (Some d) (Some e) a b (zero, low, is) = subst (λ n. path_in n ≡ path) is (of_digest 32 d path a refl)
target_path true path name (Some d) (Some e) a b (suc zero, low, is) = subst (λ n. path_in n ≡ path) is (of_digest 64 e path b refl)
target_path true path name (Some d) (Some e) a b (suc (suc k), low, is) = absurd (omega arith)

pub has_targets : (consistent : Bool) (names each paths : List (List ℕ)) → each ≡ map (path_of consistent) names → AreOnceInOrder each paths
    → HasEachTarget consistent names paths
has_targets consistent names each paths of are path name sha256 sha512 a b one there =
    are.each_kept path (subst (λ l. Contains l path) (sym of) (subst (Contains (map (path_of consistent) names)) (target_path consistent path name sha256 sha512 a b one)
    (contains_map (path_of consistent) names name there)))
