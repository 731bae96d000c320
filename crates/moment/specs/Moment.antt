-- Moments, and their texts in `expires` (TUF 1.0 section 4.2.1). The calendar is jiff's.
use Rattle.std.specs.Prelude.{◌≡◌, ℕ, ◌+◌, ◌-◌, ◌*◌, ◌/◌, ◌%◌, ◌<◌, ◌&&◌, ◌||◌, ◌==◌, nat_lt, nat_le, if◌then◌else◌, Bool, ℤ, pos, int_lt, List, [], ◌∷◌, ◌++◌, length, slice_index, Option, Some, None}
use Rattle.std.specs.Ordering.{int_eq}
use Rattle.std.specs.List.{list_all}
use Rattle.jiff_core.specs.Calendar.{IsDate, days_in_month, days_from_civil}
pub use Rattle.moment.specs.declared.Stamp.{Stamp}

-- A day number, where day 0 is 1970-01-01, and the seconds since midnight, in UTC.
pub record Moment : Type 0 where
  pub day : ℤ
  pub second : ℕ

-- by the day, and then by the second
abbrev pub is_before : Moment → Moment → Bool
is_before a b = int_lt a.day b.day || (int_eq a.day b.day && nat_lt a.second b.second)

-- ---- the text of a moment

-- The calendar has the date, its year is 0 to 9999, and the clock has the time.
abbrev pub IsStamp : Stamp → Type 0
IsStamp s =
    IsDate (pos s.year) (pos s.month) (pos s.day)
    × (s.hour < 24) × (s.minute < 60) × (s.second < 60)

-- The year has at most four digits, and the others two.
abbrev pub FitsDigits : Stamp → Type 0
FitsDigits s =
    (s.year < 10000) × (s.month < 100) × (s.day < 100)
    × (s.hour < 100) × (s.minute < 100) × (s.second < 100)

-- a number below 100 in two decimal digits
abbrev pub two_digits : ℕ → List ℕ
two_digits n = (48 + n / 10) ∷ (48 + n % 10) ∷ []

-- `YYYY-MM-DDTHH:MM:SSZ`
abbrev pub stamp_text : Stamp → List ℕ
stamp_text s =
    two_digits (s.year / 100) ++ two_digits (s.year % 100) ++ 45 ∷ two_digits s.month
    ++ 45 ∷ two_digits s.day ++ 84 ∷ two_digits s.hour ++ 58 ∷ two_digits s.minute
    ++ 58 ∷ two_digits s.second ++ 90 ∷ []

-- the moment of a date and a time of day
abbrev pub moment_at : Stamp → Moment
moment_at s = record {
  day = days_from_civil (pos s.year) s.month s.day;
  second = 3600 * s.hour + 60 * s.minute + s.second;
}

-- the text encodes that moment
abbrev pub IsMomentText : List ℕ → Moment → Type 0
IsMomentText text m = (s : Stamp) × (IsStamp s × (text ≡ stamp_text s) × (m ≡ moment_at s))

-- ---- the moment of a text

abbrev pub is_digit : ℕ → Bool
is_digit c = nat_le 48 c && nat_le c 57

-- the text has that character at that place
abbrev pub has : List ℕ → ℕ → ℕ → Bool
has text place c = slice_index text place == c

-- two digits are there
abbrev pub has_digits : List ℕ → ℕ → Bool
has_digits text place = is_digit (slice_index text place) && is_digit (slice_index text (place + 1))

-- the number of the two digits there
abbrev pub number_at : List ℕ → ℕ → ℕ
number_at text place = 10 * (slice_index text place - 48) + (slice_index text (place + 1) - 48)

-- the digits, dashes, colons, `T` and `Z` are in their places
abbrev pub is_laid_out : List ℕ → Bool
is_laid_out text =
    (length text == 20)
    && list_all (has_digits text) (0 ∷ 2 ∷ 5 ∷ 8 ∷ 11 ∷ 14 ∷ 17 ∷ [])
    && list_all (λ place. has text place 45) (4 ∷ 7 ∷ [])
    && list_all (λ place. has text place 58) (13 ∷ 16 ∷ [])
    && has text 10 84 && has text 19 90

-- the numbers at their places
abbrev pub stamp_at : List ℕ → Stamp
stamp_at text = record {
  year = 100 * number_at text 0 + number_at text 2;
  month = number_at text 5;
  day = number_at text 8;
  hour = number_at text 11;
  minute = number_at text 14;
  second = number_at text 17;
}

-- the calendar has the date, and the clock the time
abbrev pub is_stamp : Stamp → Bool
is_stamp s =
    nat_le 1 s.month && nat_le s.month 12
    && nat_le 1 s.day && nat_le s.day (days_in_month (pos s.year) s.month)
    && nat_lt s.hour 24 && nat_lt s.minute 60 && nat_lt s.second 60

-- the moment that the text encodes, if any
unfoldable pub moment_of : List ℕ → Option Moment
moment_of text =
    if is_laid_out text && is_stamp (stamp_at text) then Some (moment_at (stamp_at text)) else None
