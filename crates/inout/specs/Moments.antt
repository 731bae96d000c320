-- The text of a moment, as `expires` has it (TUF 1.0 section 4.2.1).
use Rattle.std.specs.Prelude.{ℕ, zero, suc, ◌/◌, ◌%◌, Bool, ◌&&◌, nat_lt, if◌then◌else◌, ℤ, pos, negsuc, ◌-ℤ◌, int_le, unsigned_abs, List, []}
use Rattle.jiff_core.specs.Calendar.{days_from_civil}
use Rattle.moment.specs.Moment.{Moment, stamp_text}

-- the greatest number up to `most` that passes, or 0 if none does
unfoldable pub last_to : (ℕ → Bool) → ℕ → ℕ
last_to passes zero = 0
last_to passes (suc n) = if passes (suc n) then suc n else last_to passes n

-- the last year up to 9999 that has begun on that day
abbrev pub year_of : ℤ → ℕ
year_of day = last_to (λ y. int_le (days_from_civil (pos y) 1 1) day) 9999

-- the last month of the year that has begun
abbrev pub month_of : ℕ → ℤ → ℕ
month_of year day = last_to (λ m. int_le (days_from_civil (pos year) m 1) day) 12

-- the place of the day in the month, from 1
abbrev pub place_of : ℕ → ℕ → ℤ → ℕ
place_of year month day = suc (unsigned_abs (day -ℤ days_from_civil (pos year) month 1))

-- `YYYY-MM-DDTHH:MM:SSZ` of a date and a second of the day
abbrev pub text_at : ℕ → ℕ → ℕ → ℕ → List ℕ
text_at year month day second = stamp_text (record {
  year = year;
  month = month;
  day = day;
  hour = second / 3600;
  minute = second / 60 % 60;
  second = second % 60;
})

abbrev pub text_in : ℕ → ℕ → Moment → List ℕ
text_in year month m = text_at year month (place_of year month m.day) m.second

-- the day is one of the years 0 to 9999, and the second one of a day
abbrev pub has_text : Moment → Bool
has_text m = int_le (negsuc 719527) m.day && int_le m.day (pos 2932896) && nat_lt m.second 86400

-- the text that spells the moment, and nothing if none does
unfoldable pub moment_text : Moment → List ℕ
moment_text m =
    if has_text m then text_in (year_of m.day) (month_of (year_of m.day) m.day) m else []
