-- The moment that a text encodes is the one that is read from it.
use Rattle.std.proofs.Common.{arith, sym, ◌∙◌, ap, ◌≡◌, ℕ, ◌+◌, ◌*◌, ◌-◌, ◌/◌, ◌%◌, ◌<◌, ◌≤◌, ◌&&◌, true, refl, if◌then◌else◌, List, length, Some, None, slice_index}
use Rattle.std.proofs.lemmas.Bool.Decides.{nat_tests}
use Rattle.std.proofs.lemmas.Bool.{and_parts, and_from, false_from_ne_true, eqb-true}
use Rattle.std.proofs.lemmas.Slice.Eq.{text_from_reads}
use Rattle.moment.specs.Moment.{Moment, Stamp, IsStamp, IsMomentText, moment_of, stamp_text, moment_at, stamp_at, is_digit, is_laid_out, is_stamp, has, has_digits, FitsDigits}

-- the two digits that are written of a number are digits, and are read as that number
ones_stand : (n : ℕ) → is_digit (48 + n % 10) ≡ true
ones_stand n = grind (arith, nat_tests)

tens_stand : (n : ℕ) → n < 100 → is_digit (48 + n / 10) ≡ true
tens_stand n small = grind (arith, nat_tests)

read_two : (n : ℕ) → 10 * (48 + n / 10 - 48) + (48 + n % 10 - 48) ≡ n
read_two n = omega arith

-- the numbers that are written are those that are read
stamp_at-stamp_text : (s : Stamp) → stamp_at (stamp_text s) ≡ s
stamp_at-stamp_text s =
    let year : 100 * (s.year / 100) + s.year % 100 ≡ s.year = omega arith in
    rw (read_two (s.year / 100), read_two (s.year % 100), year, read_two s.month, read_two s.day, read_two s.hour, read_two s.minute, read_two s.second)

is_stamp-from : (s : Stamp) → IsStamp s → is_stamp s ≡ true
is_stamp-from s is = grind (arith, nat_tests)

-- the numbers have no more digits than are written
small_from : (s : Stamp) → IsStamp s → FitsDigits s
small_from s is = (grind (arith, nat_tests), grind (arith, nat_tests), grind (arith, nat_tests), omega arith, omega arith, omega arith)

laid_out : (s : Stamp) → FitsDigits s → is_laid_out (stamp_text s) ≡ true
laid_out s small =
    let early : s.year / 100 < 100 = omega arith in
    let late : s.year % 100 < 100 = omega arith in
    simp (ones_stand, tens_stand _ early, tens_stand _ late, tens_stand _ small.1, tens_stand _ small.2, tens_stand _ small.3, tens_stand _ small.4, tens_stand _ small.5)

-- reading a text returns the moment that it encodes
pub the_moment : (text : List ℕ) (m : Moment) → IsMomentText text m → moment_of text ≡ Some m
unfolding moment_of
the_moment text m (s, (is, spells, value)) =
    let laid : is_laid_out text ≡ true = ap is_laid_out spells ∙ laid_out s (small_from s is) in
    let same : stamp_at text ≡ s = ap stamp_at spells ∙ stamp_at-stamp_text s in
    let real : is_stamp (stamp_at text) ≡ true = ap is_stamp same ∙ is_stamp-from s is in
    ap (λ b. if b then Some (moment_at (stamp_at text)) else None) (and_from _ _ laid real)
    ∙ ap (λ t. Some (moment_at t)) same ∙ ap (λ x. Some x) (sym value)

-- two digits from place i on
abbrev AreDigits : List ℕ → ℕ → Type 0
AreDigits text i =
    (48 ≤ slice_index text i) × (slice_index text i ≤ 57)
    × (48 ≤ slice_index text (i + 1)) × (slice_index text (i + 1) ≤ 57)

digits_from : (text : List ℕ) (i : ℕ) → has_digits text i ≡ true → AreDigits text i
digits_from text i h = grind (arith, nat_tests)

mark_from : (text : List ℕ) (i c : ℕ) → has text i c ≡ true → slice_index text i ≡ c
mark_from text i c h = grind (arith, nat_tests)

-- the layout of the text
record IsLaidOut (text : List ℕ) : Type 0 where
  len : length text ≡ 20
  century : AreDigits text 0
  year : AreDigits text 2
  dash : slice_index text 4 ≡ 45
  month : AreDigits text 5
  second_dash : slice_index text 7 ≡ 45
  day : AreDigits text 8
  t : slice_index text 10 ≡ 84
  hour : AreDigits text 11
  colon : slice_index text 13 ≡ 58
  minute : AreDigits text 14
  second_colon : slice_index text 16 ≡ 58
  second : AreDigits text 17
  z : slice_index text 19 ≡ 90

IsLaidOut-from : (text : List ℕ) → is_laid_out text ≡ true → IsLaidOut text
IsLaidOut-from text h =
    let z = and_parts _ _ h in
    let t = and_parts _ _ z.0 in
    let colons = and_parts _ _ t.0 in
    let dashes = and_parts _ _ colons.0 in
    let digits = and_parts _ _ dashes.0 in
    let d0 = and_parts _ _ digits.1 in
    let d2 = and_parts _ _ d0.1 in
    let d5 = and_parts _ _ d2.1 in
    let d8 = and_parts _ _ d5.1 in
    let d11 = and_parts _ _ d8.1 in
    let d14 = and_parts _ _ d11.1 in
    let d17 = and_parts _ _ d14.1 in
    let m4 = and_parts _ _ dashes.1 in
    let m7 = and_parts _ _ m4.1 in
    let m13 = and_parts _ _ colons.1 in
    let m16 = and_parts _ _ m13.1 in
    record {
      len = eqb-true _ _ digits.0;
      century = digits_from text 0 d0.0;
      year = digits_from text 2 d2.0;
      dash = mark_from text 4 45 m4.0;
      month = digits_from text 5 d5.0;
      second_dash = mark_from text 7 45 m7.0;
      day = digits_from text 8 d8.0;
      t = mark_from text 10 84 t.1;
      hour = digits_from text 11 d11.0;
      colon = mark_from text 13 58 m13.0;
      minute = digits_from text 14 d14.0;
      second_colon = mark_from text 16 58 m16.0;
      second = digits_from text 17 d17.0;
      z = mark_from text 19 90 z.1;
    }

read_back : (text : List ℕ) → IsLaidOut text → text ≡ stamp_text (stamp_at text)
read_back text laid = text_from_reads _ _ laid.len (grind arith)

real_from : (s : Stamp) → s.year < 10000 → is_stamp s ≡ true → IsStamp s
real_from s small is = grind (arith, nat_tests)

IsStamp-from : (text : List ℕ) → IsLaidOut text → is_stamp (stamp_at text) ≡ true → IsStamp (stamp_at text)
IsStamp-from text laid is = real_from (stamp_at text) (omega arith) is

spelled : (text : List ℕ) → (is_laid_out text && is_stamp (stamp_at text)) ≡ true
    → IsMomentText text (moment_at (stamp_at text))
spelled text both =
    let parts = and_parts _ _ both in
    let laid = IsLaidOut-from text parts.0 in
    (stamp_at text, (IsStamp-from text laid parts.1, read_back text laid, refl))

-- a text that encodes none is read as none
pub no_moment : (text : List ℕ) → ((m : Moment) → IsMomentText text m → ⊥) → moment_of text ≡ None
unfolding moment_of
no_moment text none =
    ap (λ b. if b then Some (moment_at (stamp_at text)) else None)
    (false_from_ne_true _ (λ both. none (moment_at (stamp_at text)) (spelled text both)))
