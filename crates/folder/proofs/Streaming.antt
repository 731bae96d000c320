-- A file in a lane: what was read of it, and the hash value of that.
use Rattle.std.proofs.Common.{◌≡◌, ◌≤◌, ◌+◌, ◌-◌, ◌%◌, ◌⊎◌, ℕ, Bool, true, false, if◌then◌else◌, List, [], ◌++◌, length, take, drop, Option, None, Some, IfSome, refl, sym, ◌∙◌, ap, subst, arith, inl, inr, add-zero, length-append, length-take-le}
use Rattle.std.proofs.Math.Seq.{take-append-add, take-append_seam}
use Rattle.std.proofs.lemmas.List.{take-take, take_all}
use Rattle.std.proofs.lemmas.Slice.{take-put_mid}
use Rattle.std.specs.Io.KnownBytes.{Consumes, IsAtEnd, Keeps}
use borrow.Rule.Slice.PartMut.{put_mid}
use Rattle.sha2.specs.Sha256.{digest_bytes, hash_after, initial_hash_256, padded_message, sha256}
use Rattle.sha2.specs.Sha512.{sha512}
use Rattle.lanes.specs.Pending.{IsAfter, Reaches}
use Rattle.lanes.specs.declared.pending.Pending.{Pending}
use Rattle.folder.specs.Streams.{IsDrained, IsMeasureIn, IsOpened, IsStream, message}
use Rattle.folder.specs.declared.measure.Need.{Need}
use Rattle.folder.specs.declared.stream.Stream.{Stream}
use Rattle.folder.proofs.Taking.{joined, kept, known_of, starts, whole}

-- ---- bytes that are read into a room

put_read : (room buf : List ℕ) (at j n : ℕ) → at ≤ length room → n ≤ length buf → take (at + n) (put_mid at j room buf) ≡ take at room ++ take n buf
put_read room buf at j n in' le =
    let whole : take (at + length buf) (put_mid at j room buf) ≡ take at room ++ buf = take-put_mid at j room buf (at + length buf) refl in' in
    let len : length (take at room) ≡ at = length-take-le at room in' in
    sym (take-take (at + n) (at + length buf) (put_mid at j room buf) (omega (arith, le))) ∙ ap (take (at + n)) whole
    ∙ ap (λ k. take (k + n) (take at room ++ buf)) (sym len) ∙ take-append-add (take at room) buf n

pub one_read : (start mid now : Option (List ℕ)) (room buf : List ℕ) (at j n : ℕ) → at ≤ length room → n ≤ length buf
    → Consumes start mid (take at room) → Consumes mid now (take n buf) → Consumes start now (take (at + n) (put_mid at j room buf))
one_read start mid now room buf at j n in' le first next =
    subst (Consumes start now) (sym (put_read room buf at j n in' le)) (joined start mid now (take at room) (take n buf) first next)

pub none_read : (start mid now : Option (List ℕ)) (room buf : List ℕ) (at j : ℕ) → at ≤ length room
    → Consumes start mid (take at room) → Keeps mid now → Consumes start now (take at (put_mid at j room buf))
none_read start mid now room buf at j in' first keeps =
    subst (λ k. Consumes start now (take k (put_mid at j room buf))) (add-zero at) (one_read start mid now room buf at j 0 in' (omega arith) first (kept mid now keeps))

-- bytes that were written over all of a vector's
pub written : {X : Type 0} (n : ℕ) (new old : List X) → length new ≡ n → take n (new ++ drop (length new) old) ≡ new
written n new old size = ap (λ k. take k (new ++ drop (length new) old)) (sym size) ∙ take-append_seam new (drop (length new) old)

-- ---- no block is left

pub none_left : (hash : List ℕ) (p : Pending) (m : List ℕ) → p.left ≡ 0 → IsAfter hash m → Reaches hash p m
unfolding hash_after
none_left hash p m none after = ap (hash_after hash (drop p.at p.bytes.items)) none ∙ after

pub all_taken : (hash : List ℕ) (p : Pending) (m : List ℕ) → p.left ≡ 0 → Reaches hash p m → IsAfter hash m
unfolding hash_after
all_taken hash p m none reaches = sym (ap (hash_after hash (drop p.at p.bytes.items)) none) ∙ reaches

-- ---- the message

pub going : {F : Type 0} (s : Stream F) (m : List ℕ) → s.ended ≡ false → message s m ≡ m
going s m is = ap (λ (b : Bool). if b then padded_message m else m) is

pub over : {F : Type 0} (s : Stream F) (m : List ℕ) → s.ended ≡ true → message s m ≡ padded_message m
over s m is = ap (λ (b : Bool). if b then padded_message m else m) is

-- ---- the start of a file

opened : (had has : Option (List ℕ)) → IsOpened had has → Consumes had has []
opened None has h = tt
opened (Some xs) has h = subst (λ o. Consumes (Some xs) o []) (sym h) refl

pub begun : {F : Type 0} (had has : Option (List ℕ)) (p : Pending) (s : Stream F) → s.length ≡ 0 → s.ended ≡ false → s.need.sha256 ≡ true → s.need.sha512 ≡ false
    → p.left ≡ 0 → IsOpened had has → IsStream had has initial_hash_256 p s
unfolding hash_after
begun had has p s none going_on has256 has512 left is = record {
  taken = [];
  counted = none;
  few = omega arith;
  consumed = opened had has is;
  has_sha256 = has256;
  has_sha512 = has512;
  whole = λ _. refl;
  end = λ ended. absurd (cc);
  reaches = subst (Reaches initial_hash_256 p) (sym (going s [] going_on)) (none_left initial_hash_256 p [] left refl);
}

-- ---- more of a file

module _ {F : Type 0} (had has now : Option (List ℕ)) (hash : List ℕ) (p q : Pending) (s t : Stream F) (bytes : List ℕ) (n : ℕ) where
  pub more_read : IsDrained false had has hash p s → Consumes has now (take n bytes) → n ≤ length bytes → n ≤ s.need.up_to - s.length
      → t.need ≡ s.need → t.length ≡ s.length + n → t.ended ≡ false → n % 64 ≡ 0
      → ((m : List ℕ) → length m % 64 ≡ 0 → IsAfter hash m → Reaches hash q (m ++ take n bytes)) → IsStream had now hash q t
  more_read drained consumes le most need counted still blocks reach =
      let was = drained.stream in
      let left = drained.left in
      let going_on = drained.is_ended in
      let piece : List ℕ = take n bytes in
      let size : length piece ≡ n = length-take-le n bytes le in
      let all : length (was.taken ++ piece) ≡ length was.taken + length piece = length-append was.taken piece in
      let after = all_taken hash p was.taken left (subst (Reaches hash p) (going s was.taken going_on) was.reaches) in
      let few : length (was.taken ++ piece) ≤ s.need.up_to = omega (arith, all, size, most, was.counted, was.few) in
      record {
        taken = was.taken ++ piece;
        counted = omega (arith, all, size, counted, was.counted);
        few = rw need few;
        consumed = joined had has now was.taken piece was.consumed consumes;
        has_sha256 = ap (λ (k : Need). k.sha256) need ∙ was.has_sha256;
        has_sha512 = ap (λ (k : Need). k.sha512) need ∙ was.has_sha512;
        whole = λ _. omega (arith, all, size, blocks, was.whole going_on);
        end = λ ended. absurd (cc);
        reaches = subst (Reaches hash q) (sym (going t (was.taken ++ piece) still)) (reach was.taken (was.whole going_on) after);
      }

  pub end_read : IsDrained false had has hash p s → Consumes has now (take n bytes) → n ≤ length bytes → n ≤ s.need.up_to - s.length
      → t.need ≡ s.need → t.length ≡ s.length + n → t.ended ≡ true → (s.need.up_to ≤ s.length + n) ⊎ IsAtEnd now
      → ((m : List ℕ) → length m % 64 ≡ 0 → length m + n ≡ t.length → IsAfter hash m → Reaches hash q (padded_message (m ++ take n bytes))) → IsStream had now hash q t
  end_read drained consumes le most need counted ended done reach =
      let was = drained.stream in
      let left = drained.left in
      let going_on = drained.is_ended in
      let piece : List ℕ = take n bytes in
      let size : length piece ≡ n = length-take-le n bytes le in
      let all : length (was.taken ++ piece) ≡ length was.taken + length piece = length-append was.taken piece in
      let after = all_taken hash p was.taken left (subst (Reaches hash p) (going s was.taken going_on) was.reaches) in
      let few : length (was.taken ++ piece) ≤ s.need.up_to = omega (arith, all, size, most, was.counted, was.few) in
      let up : (t.need.up_to ≤ length (was.taken ++ piece)) ⊎ IsAtEnd now = elim done [
        | inl enough ↦ inl (rw need (omega (arith, all, size, enough, was.counted)))
        | inr none ↦ inr none
      ] in
      record {
        taken = was.taken ++ piece;
        counted = omega (arith, all, size, counted, was.counted);
        few = rw need few;
        consumed = joined had has now was.taken piece was.consumed consumes;
        has_sha256 = ap (λ (k : Need). k.sha256) need ∙ was.has_sha256;
        has_sha512 = ap (λ (k : Need). k.sha512) need ∙ was.has_sha512;
        whole = λ still. absurd (cc);
        end = λ _. up;
        reaches = subst (Reaches hash q) (sym (over t (was.taken ++ piece) ended)) (reach was.taken (was.whole going_on) (omega (arith, counted, was.counted)) after);
      }

-- ---- the end of a file

ended : (u : ℕ) (piece : List ℕ) (had has : Option (List ℕ)) → length piece ≤ u → Consumes had has piece → (u ≤ length piece) ⊎ IsAtEnd has
    → IfSome had (λ xs. (take u xs ≡ take u piece) × (has ≡ Some (drop u xs)))
ended u piece None has few c done = tt
ended u piece (Some xs) None few c done = absurd c
ended u piece (Some xs) (Some ys) few c done = let both : (take u xs ≡ take u piece) × (ys ≡ drop u xs) = starts u xs ys piece c few done in (both.0, ap Some both.1)

digest_of : (hash m digest : List ℕ) → IsAfter hash (padded_message m) → digest ≡ digest_bytes hash 8 → digest ≡ sha256 m
unfolding sha256
digest_of hash m digest after is = is ∙ ap (λ h. digest_bytes h 8) after

pub measured : {F : Type 0} (had has : Option (List ℕ)) (hash digest : List ℕ) (p : Pending) (s : Stream F) → IsDrained true had has hash p s
    → digest ≡ digest_bytes hash 8 → IsMeasureIn had s.need (record { length = s.length; sha256 = Some digest; sha512 = None })
measured had has hash digest p s drained is =
    let it = drained.stream in
    let left = drained.left in
    let over_now = drained.is_ended in
    let u = s.need.up_to in
    let all : take u it.taken ≡ it.taken = take_all u it.taken it.few in
    let after = all_taken hash p _ left (subst (Reaches hash p) (over s it.taken over_now) it.reaches) in
    let d256 : Some digest ≡ (if s.need.sha256 then Some (sha256 (take u it.taken)) else None) =
    ap Some (digest_of hash it.taken digest after is ∙ ap sha256 (sym all)) ∙ ap (λ (b : Bool). if b then Some (sha256 (take u it.taken)) else None) (sym it.has_sha256) in
    let d512 = ap (λ (b : Bool). if b then Some (sha512 (take u it.taken)) else None) (sym it.has_sha512) in
    let some = whole s.need it.taken s.length (Some digest) None (it.counted ∙ ap length (sym all)) d256 d512 in
    record {
      some = (it.taken, some);
      known = known_of s.need _ it.taken had has some (ended u it.taken had has it.few it.consumed (it.end over_now));
    }
