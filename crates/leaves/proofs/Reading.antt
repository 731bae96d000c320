-- The text of a leaves file, and the leaf of a signature.
use Rattle.std.proofs.Common.{◌≡◌, ◌∙◌, ℕ, ◌<◌, ◌^◌, List, ◌++◌, length, take, drop, Some, ap, refl, arith}
use Rattle.std.proofs.lemmas.List.{length-append, take_at, drop_at}
use Rattle.std.proofs.lemmas.Nat.{from_be_bytes-to_be_bytes_4}
use Rattle.std.proofs.lemmas.Slice.Eq.{bytes_eq-Decides}
use Rattle.std.specs.Int.{w32, to_be_bytes, from_be_bytes}
use Rattle.std.specs.Prelude.{bytes_eq, true}
use Rattle.lms.specs.declared.kind.Height.{Height}
use Rattle.lms.specs.declared.kind.Height.TheVariants.{H5, H10, H15}
use Rattle.lms.specs.declared.kind.Kind.{Kind}
use Rattle.lms.specs.Lms.{u32str, levels, Parts, text_of, ots_code, lms_code}
use Rattle.lms.specs.Signer.{Signer, signature_by}
use Rattle.leaves.specs.Leaves.{leaf_of, reserved_of}

same_bytes : (xs ys : List ℕ) → xs ≡ ys → bytes_eq xs ys ≡ true
same_bytes xs ys e = (bytes_eq-Decides xs ys).1 e

pub reads_text : (public text : List ℕ) (n : ℕ) → length public ≡ 56 → n < 2 ^ 32 → text ≡ public ++ to_be_bytes w32 n
    → reserved_of public text ≡ Some n
unfolding reserved_of
reads_text public text n size fits is =
    let long : length text ≡ 60 = ap length is ∙ length-append public (to_be_bytes w32 n) ∙ omega (arith, size) in
    let key : take 56 text ≡ public = ap (take 56) is ∙ take_at public (to_be_bytes w32 n) 56 size in
    let number : drop 56 text ≡ to_be_bytes w32 n = ap (drop 56) is ∙ drop_at public (to_be_bytes w32 n) 56 size in
    rw (long, same_bytes (take 56 text) public key, number, from_be_bytes-to_be_bytes_4 n fits) refl

number_of_u32str : (n : ℕ) → n < 2 ^ 32 → from_be_bytes w32 (u32str n) ≡ n
unfolding u32str
number_of_u32str n h = from_be_bytes-to_be_bytes_4 n h

length-u32str : (n : ℕ) → length (u32str n) ≡ 4
unfolding u32str
length-u32str n = refl

few : (h : Height) (q : ℕ) → q < 2 ^ levels h → q < 2 ^ 32
few H5 q lt = omega (arith, lt)
few H10 q lt = omega (arith, lt)
few H15 q lt = omega (arith, lt)

first_number : (q : ℕ) (rest : List ℕ) → q < 2 ^ 32 → from_be_bytes w32 (take 4 (u32str q ++ rest)) ≡ q
first_number q rest lt = rw (take_at (u32str q) rest 4 (length-u32str q)) (number_of_u32str q lt)

leaf_of_text : (k : Kind) (s : Parts) → s.q < 2 ^ 32 → leaf_of (text_of k s) ≡ s.q
unfolding u32str
leaf_of_text k s lt = first_number s.q ((u32str (ots_code k.width) ++ s.c ++ s.y) ++ u32str (lms_code k.height) ++ s.path) lt

-- the leaf of a signer's signature
leaf_of_signature : (s : Signer) (q : ℕ) (msg : List ℕ) → q < 2 ^ levels s.kind.height → leaf_of (signature_by s q msg) ≡ q
leaf_of_signature s q msg lt = leaf_of_text s.kind _ (few s.kind.height q lt)

pub signed_leaf : (sig : List ℕ) (s : Signer) (msg : List ℕ) → sig ≡ signature_by s s.used msg → s.used < 2 ^ levels s.kind.height
    → leaf_of sig ≡ s.used
signed_leaf sig s msg is lt = ap leaf_of is ∙ leaf_of_signature s s.used msg lt

-- the leaf of a kept key's signature
pub kept_leaf : (sig : List ℕ) (q : ℕ) → take 4 sig ≡ u32str q → q < 2 ^ 32 → leaf_of sig ≡ q
kept_leaf sig q is lt = ap (from_be_bytes w32) is ∙ number_of_u32str q lt
