-- The hash value of a message that is taken block after block.
use Rattle.std.proofs.Common.{◌≡◌, ℕ, zero, suc, ◌+◌, ◌-◌, ◌*◌, ◌/◌, ◌%◌, ◌^◌, ◌<◌, ◌≤◌, List, [], ◌∷◌, ◌++◌, length, take, drop, replicate, slice_index, append_assoc, length-append, refl, sym, ap, ◌∙◌, subst, arith, add-zero}
use Rattle.std.proofs.Math.Nat.{add-suc}
use Rattle.std.proofs.Math.Seq.{drop-append_seam, drop-drop, take-append_seam}
use Rattle.std.proofs.lemmas.List.{length-take-le, take-append-drop}
use Rattle.std.proofs.lemmas.Simd.{get_or-chunk, length-replicate}
use Rattle.std.specs.Int.{w32, w64, from_be_bytes, to_be_bytes}
use Rattle.sha2.specs.Sha256.{compress, hash_after, initial_hash_256, padded_message, padding, word_at}
use Rattle.sha2.proofs.Absorbing256.{hash_after-append, hash_after_next}
use Rattle.lanes.specs.Pending.{IsAfter, Reaches}
use Rattle.lanes.specs.declared.pending.Pending.{Pending}

-- first a blocks, and then b
pub hash_after_both : (h p : List ℕ) (a b : ℕ) → hash_after h p (a + b) ≡ hash_after (hash_after h p a) (drop (a * 64) p) b
unfolding hash_after
hash_after_both h p a zero = rw (add-zero a) refl
hash_after_both h p a (suc b) =
    let rest : drop (b * 64) (drop (a * 64) p) ≡ drop ((a + b) * 64) p = drop-drop (b * 64) (a * 64) p ∙ ap (λ k. drop k p) (omega arith) in
    rw (add-suc a b) (λ e. compress (hash_after_both h p a b e) (take 64 (sym rest e)))

-- the first n blocks, and what is left of them
pub hash_after_part : (h p : List ℕ) (at n left : ℕ) → n ≤ left
    → hash_after (hash_after h (drop at p) n) (drop (at + 64 * n) p) (left - n) ≡ hash_after h (drop at p) left
hash_after_part h p at n left le =
    let rest : drop (n * 64) (drop at p) ≡ drop (at + 64 * n) p = drop-drop (n * 64) at p ∙ ap (λ k. drop k p) (omega arith) in
    let all : n + (left - n) ≡ left = omega (arith, le) in
    ap (λ x. hash_after (hash_after h (drop at p) n) x (left - n)) (sym rest) ∙ sym (hash_after_both h (drop at p) n (left - n)) ∙ ap (hash_after h (drop at p)) all

-- whole blocks more of a message
pub taken : (h m x rest : List ℕ) (n : ℕ) → length m % 64 ≡ 0 → length x ≡ n * 64 → IsAfter h m → IsAfter (hash_after h (x ++ rest) n) (m ++ x)
taken h m x rest n whole size after =
    let q = length m / 64 in
    let len : length (m ++ x) ≡ length m + length x = length-append m x in
    let edge : q * 64 ≡ length m = omega (arith, whole) in
    let count : length (m ++ x) / 64 ≡ q + n = omega (arith, len, size, whole) in
    let first : hash_after initial_hash_256 (m ++ x) q ≡ h = hash_after-append initial_hash_256 m x q (omega (arith, edge)) ∙ sym after in
    let then : drop (q * 64) (m ++ x) ≡ x = ap (λ k. drop k (m ++ x)) edge ∙ drop-append_seam m x in
    let next : hash_after h (x ++ rest) n ≡ hash_after h x n = hash_after-append h x rest n (omega (arith, size)) in
    next ∙ sym (ap (hash_after initial_hash_256 (m ++ x)) count ∙ hash_after_both initial_hash_256 (m ++ x) q n ∙ (λ e. hash_after (first e) (then e) n))

-- the first n blocks of the bytes
pub taken_start : (h m bytes : List ℕ) (n k : ℕ) → k ≡ n * 64 → length m % 64 ≡ 0 → k ≤ length bytes → IsAfter h m
    → IsAfter (hash_after h bytes n) (m ++ take k bytes)
taken_start h m bytes n k size whole le after =
    ap (λ b. hash_after h b n) (sym (take-append-drop k bytes)) ∙ taken h m (take k bytes) (drop k bytes) n whole (length-take-le k bytes le ∙ size) after

-- the word k of a block that begins at `at`
pub word_in_block : (b : List ℕ) (at k : ℕ) → k < 16 → word_at b (at + 4 * k) ≡ word_at (take 64 (drop at b)) (4 * k)
word_in_block b at k lt =
    let byte = λ (j i : ℕ) (in' : j < 64) (is : i ≡ at + j). ap (λ n. slice_index b n) is ∙ sym (get_or-chunk at 64 b j 0 in') in
    λ e. from_be_bytes w32 (byte (4 * k) (at + 4 * k) (omega arith) (omega arith) e ∷ byte (4 * k + 1) (at + 4 * k + 1) (omega arith) (omega arith) e
    ∷ byte (4 * k + 2) (at + 4 * k + 2) (omega arith) (omega arith) e ∷ byte (4 * k + 3) (at + 4 * k + 3) (omega arith) (omega arith) e ∷ [])

pub word_of : (b : List ℕ) (at k x : ℕ) → k < 16 → x ≡ word_at b (at + 4 * k) → x ≡ word_at (take 64 (drop at b)) (4 * k)
word_of b at k x lt is = is ∙ word_in_block b at k lt

-- the end of a message and its padding, as they were put into the room
pub taken_end : (h m old one two : List ℕ) (used zeros total left : ℕ) → length m % 64 ≡ 0 → length m + used ≡ total → used ≤ length old → IsAfter h m
    → zeros ≡ (119 - used % 64) % 64 → left ≡ (used + zeros + 9) / 64
    → one ≡ take used old ++ (0x80 ∷ replicate zeros 0) ++ drop (used + (zeros + 1)) old
    → two ≡ take (used + zeros + 1) one ++ to_be_bytes w64 (total * 8 % 2 ^ 64) ++ drop (used + zeros + 1 + 8) one
    → IsAfter (hash_after h two left) (padded_message (m ++ take used old))
taken_end h m old one two used zeros total left whole count le after zeros_is left_is one_is two_is =
    let tail : List ℕ = take used old in
    let pad : List ℕ = 0x80 ∷ replicate zeros 0 in
    let bits : List ℕ = to_be_bytes w64 (total * 8 % 2 ^ 64) in
    let tail_len : length tail ≡ used = length-take-le used old le in
    let pad_len : length pad ≡ zeros + 1 = omega (arith, length-replicate {A = ℕ} zeros 0) in
    let start_len : length (tail ++ pad) ≡ used + zeros + 1 = omega (arith, length-append tail pad, tail_len, pad_len) in
    let start : take (used + zeros + 1) one ≡ tail ++ pad = ap (take (used + zeros + 1)) one_is ∙ ap (λ n. take n ((tail ++ pad) ++ drop (used + (zeros + 1)) old)) (sym start_len) ∙ take-append_seam (tail ++ pad) _ in
    let x : List ℕ = tail ++ (pad ++ bits) in
    let room : two ≡ x ++ drop (used + zeros + 1 + 8) one = two_is ∙ ap (λ s. s ++ bits ++ drop (used + zeros + 1 + 8) one) start ∙ ap (λ s. s ++ drop (used + zeros + 1 + 8) one) (append_assoc tail pad bits) in
    let bits_len : length bits ≡ 8 = refl in
    let x_len : length x ≡ used + (zeros + 1 + 8) = length-append tail (pad ++ bits) ∙ (λ e. tail_len e + ((length-append pad bits e))) ∙ omega (arith, pad_len, bits_len) in
    let blocks : length x ≡ left * 64 = omega (arith, x_len, zeros_is, left_is) in
    let message : length (m ++ tail) ≡ total = omega (arith, length-append m tail, tail_len, count) in
    let same_zeros : zeros ≡ (119 - total % 64) % 64 = omega (arith, zeros_is, whole, count) in
    let padding_is : pad ++ bits ≡ padding (length (m ++ tail)) = rw message (ap (λ z. (0x80 ∷ replicate z 0) ++ bits) same_zeros) in
    let all : m ++ x ≡ padded_message (m ++ tail) = sym (append_assoc m tail (pad ++ bits)) ∙ ap (λ p. (m ++ tail) ++ p) padding_is in
    ap (λ b. hash_after h b left) room ∙ (subst (IsAfter (hash_after h (x ++ drop (used + zeros + 1 + 8) one) left)) all (taken h m x _ left whole blocks after))

-- one block more
pub next_block : (start h new bytes : List ℕ) (at n : ℕ) → h ≡ hash_after start (drop at bytes) n → new ≡ compress h (take 64 (drop (at + 64 * n) bytes))
    → new ≡ hash_after start (drop at bytes) (n + 1)
next_block start h new bytes at n was is =
    let rest : drop (at + 64 * n) bytes ≡ drop (n * 64) (drop at bytes) = ap (λ k. drop k bytes) (omega arith) ∙ sym (drop-drop (n * 64) at bytes) in
    is ∙ (λ e. compress (was e) (take 64 (rest e))) ∙ sym (hash_after_next start (drop at bytes) n)

-- the blocks that were taken, and those that are left
pub advanced : (h new : List ℕ) (p q : Pending) (count : ℕ) (m : List ℕ) → count ≤ p.left → new ≡ hash_after h (drop p.at p.bytes.items) count
    → q ≡ record p { at = p.at + 64 * count; left = p.left - count } → Reaches h p m → Reaches new q m
advanced h new p q count m le hash is reaches =
    ap (λ (r : Pending). hash_after new (drop r.at r.bytes.items) r.left) is
    ∙ ap (λ x. hash_after x (drop (p.at + 64 * count) p.bytes.items) (p.left - count)) hash
    ∙ hash_after_part h p.bytes.items p.at count p.left le ∙ reaches
