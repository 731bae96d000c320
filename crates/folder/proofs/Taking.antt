-- Bytes that are taken a piece at a time, until no more are wanted or left.
use Rattle.std.proofs.Common.{◌≡◌, ◌≤◌, ◌+◌, ◌-◌, ◌⊎◌, ℕ, zero, suc, min, Bool, true, false, if◌then◌else◌, is_some, List, [], ◌∷◌, ◌++◌, length, take, drop, Option, None, Some, IfSome, refl, sym, ◌∙◌, ap, subst, append_assoc, append-nil, arith, inl, inr, ⊎_elim, length-append, length-take, length-take-le, drop_at}
use Rattle.std.proofs.lemmas.List.{take_min, take-append-le, drop_all}
use Rattle.std.specs.Io.KnownBytes.{Consumes, Keeps}
use Rattle.sha2.specs.Sha256.{sha256}
use Rattle.sha2.specs.Sha512.{sha512}
use Rattle.sha2.specs.Hashers.{Holds256, Holds512}
use Rattle.folder.specs.Measures.{HasTaken, IsDone, IsMeasure, LosesStart, TakesMore, measure_of}
use Rattle.folder.specs.declared.measure.Measure.{Measure}
use Rattle.folder.specs.declared.measure.Measuring.{Measuring}
use Rattle.folder.specs.declared.measure.Need.{Need}

-- ---- one piece

-- the start of more bytes is the start of the first, and as much of the others as is still wanted
more_start : (u n : ℕ) (bytes piece : List ℕ) → n ≡ min (length piece) (u - length (take u bytes)) → take u bytes ++ take n piece ≡ take u (bytes ++ piece)
more_start zero n bytes piece is = let none : n ≡ 0 = omega (arith, is) in ap (λ k. take k piece) none
more_start (suc u) n [] piece is = let at : n ≡ min (suc u) (length piece) = omega (arith, is) in ap (λ k. take k piece) at ∙ take_min (suc u) piece
more_start (suc u) n (b ∷ bytes) piece is = ap (λ z. b ∷ z) (more_start u n bytes piece (omega (arith, is)))

-- the start of a piece was taken: as much of it as is still wanted
pub took : (old new : Measuring) (bytes piece : List ℕ) (n : ℕ) → n ≡ min (length piece) (old.need.up_to - old.length)
    → new.need ≡ old.need → new.length ≡ old.length + n
    → is_some new.sha256 ≡ is_some old.sha256 → is_some new.sha512 ≡ is_some old.sha512
    → ((m : List ℕ) → IfSome old.sha256 (λ h. Holds256 h m) → IfSome new.sha256 (λ h. Holds256 h (m ++ take n piece)))
    → ((m : List ℕ) → IfSome old.sha512 (λ h. Holds512 h m) → IfSome new.sha512 (λ h. Holds512 h (m ++ take n piece)))
    → HasTaken old bytes → HasTaken new (bytes ++ piece)
took old new bytes piece n is need counted there256 there512 fed256 fed512 has =
    let u : ℕ = old.need.up_to in
    let at : n ≡ min (length piece) (u - length (take u bytes)) = is ∙ ap (λ k. min (length piece) (u - k)) has.length in
    let start : take u bytes ++ take n piece ≡ take new.need.up_to (bytes ++ piece) = more_start u n bytes piece at ∙ ap (λ k. take k.up_to (bytes ++ piece)) (sym need) in
    let few : n ≤ length piece = omega (arith, is) in
    record {
      length = counted ∙ ap (λ k. k + n) has.length ∙ (let len : length (take n piece) ≡ n = length-take-le n piece few in ap (λ k. length (take u bytes) + k) (sym len)) ∙ sym (length-append (take u bytes) (take n piece)) ∙ ap length start;
      has_sha256 = there256 ∙ has.has_sha256 ∙ ap (λ k. k.sha256) (sym need);
      has_sha512 = there512 ∙ has.has_sha512 ∙ ap (λ k. k.sha512) (sym need);
      in_sha256 = subst (λ b. IfSome new.sha256 (λ h. Holds256 h b)) start (fed256 (take u bytes) has.in_sha256);
      in_sha512 = subst (λ b. IfSome new.sha512 (λ h. Holds512 h b)) start (fed512 (take u bytes) has.in_sha512);
    }

-- ---- pieces that a reader returns

pub kept : (had has : Option (List ℕ)) → Keeps had has → Consumes had has []
kept None has k = tt
kept (Some xs) None k = absurd k
kept (Some xs) (Some ys) k = sym k

pub joined : (had mid has : Option (List ℕ)) (a b : List ℕ) → Consumes had mid a → Consumes mid has b → Consumes had has (a ++ b)
joined None mid has a b first next = tt
joined (Some xs) None has a b first next = absurd first
joined (Some xs) (Some ys) None a b first next = absurd next
joined (Some xs) (Some ys) (Some zs) a b first next = first ∙ ap (λ z. a ++ z) next ∙ sym (append_assoc a b zs)

-- nothing was taken yet
pub none_taken : (s : Measuring) (had has : Option (List ℕ)) → Keeps had has → TakesMore s s had has
none_taken s had has keeps = record {
  piece = [];
  consumed = kept had has keeps;
  need = refl;
  counted = omega arith;
  taken = λ bytes h. subst (λ b. HasTaken s b) (sym (append-nil bytes)) h;
}

keeps_itself : (had : Option (List ℕ)) → Keeps had had
keeps_itself None = tt
keeps_itself (Some xs) = refl

pub begun : (s : Measuring) (had : Option (List ℕ)) → TakesMore s s had had
begun s had = none_taken s had had (keeps_itself had)

-- one piece more
pub more_taken : (s t u : Measuring) (had mid has : Option (List ℕ)) → TakesMore s t had mid → TakesMore t u mid has → TakesMore s u had has
more_taken s t u had mid has first next = record {
  piece = first.piece ++ next.piece;
  consumed = joined had mid has first.piece next.piece first.consumed next.consumed;
  need = next.need ∙ first.need;
  counted = let len : length (first.piece ++ next.piece) ≡ length first.piece + length next.piece = length-append first.piece next.piece in omega (arith, len, first.counted, next.counted);
  taken = λ bytes h. subst (λ b. HasTaken u b) (append_assoc bytes first.piece next.piece) (next.taken (bytes ++ first.piece) (first.taken bytes h));
}

-- ---- the end

-- a digest that is there if it is wanted
pub digest_is : {D : Type 0} (o : Option D) (wanted : Bool) (d : D) → is_some o ≡ wanted → IfSome o (λ x. x ≡ d) → o ≡ (if wanted then Some d else None)
digest_is None true d there is = absurd (cc)
digest_is None false d there is = refl
digest_is (Some x) true d there is = ap Some is
digest_is (Some x) false d there is = absurd (cc)

-- a measure of the length and the digests of a start
pub whole : (need : Need) (bytes : List ℕ) (n : ℕ) (d256 : Option (List ℕ)) (d512 : Option (List ℕ)) → n ≡ length (take need.up_to bytes)
    → d256 ≡ (if need.sha256 then Some (sha256 (take need.up_to bytes)) else None) → d512 ≡ (if need.sha512 then Some (sha512 (take need.up_to bytes)) else None)
    → ◌≡◌ {A = Measure} record { length = n; sha256 = d256; sha512 = d512 } (measure_of need bytes)
whole need bytes n d256 d512 len is256 is512 =
    let at : ℕ → Option (List ℕ) → Option (List ℕ) → Measure = λ k d e. record { length = k; sha256 = d; sha512 = e } in
    ap (λ k. at k d256 d512) len ∙ ap (λ d. at (length (take need.up_to bytes)) d d512) is256
    ∙ ap (λ d. at (length (take need.up_to bytes)) (if need.sha256 then Some (sha256 (take need.up_to bytes)) else None) d) is512

pub measured : (need : Need) (s t : Measuring) (had has : Option (List ℕ)) (m : Measure) → TakesMore s t had has → s.need ≡ need → HasTaken s []
    → ((bytes : List ℕ) → HasTaken t bytes → m ≡ measure_of t.need bytes) → IsMeasure need m
measured need s t had has m more same new end = (more.piece, end more.piece (more.taken [] new) ∙ ap (λ n. measure_of n more.piece) (more.need ∙ same))

-- what was taken is the start of what the reader had, and it has the rest
pub starts : (u : ℕ) (xs ys piece : List ℕ) → xs ≡ piece ++ ys → length piece ≤ u → (u ≤ length piece) ⊎ (ys ≡ []) → (take u xs ≡ take u piece) × (ys ≡ drop u xs)
starts u xs ys piece is few (inl all) =
    let len : length piece ≡ u = omega (arith, few, all) in
    (ap (take u) is ∙ take-append-le u piece ys all, sym (ap (drop u) is ∙ drop_at piece ys u len))
starts u xs ys piece is few (inr none) =
    let same : xs ≡ piece = is ∙ ap (λ z. piece ++ z) none ∙ append-nil piece in
    (ap (take u) same, none ∙ sym (ap (drop u) same ∙ drop_all u piece few))

-- the measure by the start
of_start : Need → List ℕ → Measure
of_start need start = record {
  length = length start;
  sha256 = if need.sha256 then Some (sha256 start) else None;
  sha512 = if need.sha512 then Some (sha512 start) else None;
}

-- how much was taken in total
counted_all : (s t : Measuring) (had has : Option (List ℕ)) (more : TakesMore s t had has) → HasTaken s [] → t.length ≡ length more.piece
counted_all s t had has more new =
    let len : length {A = ℕ} (take s.need.up_to []) ≡ min s.need.up_to 0 = length-take s.need.up_to [] in
    omega (arith, more.counted, new.length, len)

pub within : (s t : Measuring) (had has : Option (List ℕ)) (more : TakesMore s t had has) → HasTaken s [] → length more.piece ≤ t.need.up_to
within s t had has more new =
    let all : t.length ≡ length more.piece = counted_all s t had has more new in
    let some : t.length ≡ length (take t.need.up_to more.piece) = (more.taken [] new).length in
    let len : length (take t.need.up_to more.piece) ≡ min t.need.up_to (length more.piece) = length-take t.need.up_to more.piece in
    omega (arith, all, some, len)

ended : (u : ℕ) (t : Measuring) (piece : List ℕ) (had has : Option (List ℕ)) → t.need.up_to ≡ u → t.length ≡ length piece → length piece ≤ t.need.up_to
    → Consumes had has piece → IsDone t has → IfSome had (λ xs. (take u xs ≡ take u piece) × (has ≡ Some (drop u xs)))
ended u t piece None has at all few c done = tt
ended u t piece (Some xs) None at all few c done = absurd c
ended u t piece (Some xs) (Some ys) at all few c done =
    let few' : length piece ≤ u = omega (arith, few, at) in
    let end : (u ≤ length piece) ⊎ (ys ≡ []) = ⊎_elim (λ (l : t.need.up_to ≤ t.length). inl (omega (arith, l, at, all))) (λ (e : ys ≡ []). inr e) done in
    let both : (take u xs ≡ take u piece) × (ys ≡ drop u xs) = starts u xs ys piece c few' end in
    (both.0, ap Some both.1)

done : (need : Need) (s t : Measuring) (had has : Option (List ℕ)) (more : TakesMore s t had has) → s.need ≡ need → HasTaken s [] → IsDone t has
    → IfSome had (λ xs. (take need.up_to xs ≡ take need.up_to more.piece) × (has ≡ Some (drop need.up_to xs)))
done need s t had has more same new end =
    ended need.up_to t more.piece had has (ap (λ n. n.up_to) (more.need ∙ same)) (counted_all s t had has more new) (within s t had has more new) more.consumed end

lost_of : (u : ℕ) (piece : List ℕ) (had has : Option (List ℕ)) → IfSome had (λ xs. (take u xs ≡ take u piece) × (has ≡ Some (drop u xs))) → LosesStart u had has
lost_of u piece None has h = tt
lost_of u piece (Some xs) has h = h.1

pub known_of : (need : Need) (m : Measure) (piece : List ℕ) (had has : Option (List ℕ)) → m ≡ measure_of need piece
    → IfSome had (λ xs. (take need.up_to xs ≡ take need.up_to piece) × (has ≡ Some (drop need.up_to xs))) → IfSome had (λ xs. m ≡ measure_of need xs)
unfolding of_start
known_of need m piece None has is h = tt
known_of need m piece (Some xs) has is h = is ∙ ap (of_start need) (sym h.0)

pub lost : (need : Need) (s t : Measuring) (had has : Option (List ℕ)) → TakesMore s t had has → s.need ≡ need → HasTaken s [] → IsDone t has → LosesStart need.up_to had has
lost need s t had has more same new end = lost_of need.up_to more.piece had has (done need s t had has more same new end)

pub measured_known : (need : Need) (s t : Measuring) (had has : Option (List ℕ)) (m : Measure) → TakesMore s t had has → s.need ≡ need → IsDone t has → HasTaken s []
    → ((bytes : List ℕ) → HasTaken t bytes → m ≡ measure_of t.need bytes) → IfSome had (λ xs. m ≡ measure_of need xs)
measured_known need s t had has m more same end new is =
    known_of need m more.piece had has (is more.piece (more.taken [] new) ∙ ap (λ n. measure_of n more.piece) (more.need ∙ same)) (done need s t had has more same new end)
