-- The date and the time of day of a moment are those of the text that spells it.
use Rattle.std.proofs.Common.{◌≡◌, ◌∙◌, ap, sym, refl, subst, ◌⊎◌, inl, inr, ℕ, zero, suc, ◌+◌, ◌-◌, ◌*◌, ◌/◌, ◌%◌, ◌<◌, ◌≤◌, Bool, true, false, ℤ, pos, negsuc, ◌-ℤ◌, ◌≤ℤ◌, ◌<ℤ◌, int_le, nat_lt, unsigned_abs, List, arith, rules, Result, Ok, Err, IfOk, String, string_bytes, []}
use Rattle.std.proofs.lemmas.Bool.{and_from, and_parts, cases_order}
use Rattle.std.proofs.lemmas.Bool.Decides.{nat_tests}
use Rattle.std.proofs.lemmas.Int.{by_lt_z, ints}
use Rattle.jiff_core.specs.Calendar.{IsCivilDate, day_count, days_from_civil, days_of_months, days_of_years}
use Rattle.jiff_core.specs.Date.{epoch_day}
use Rattle.jiff_core.specs.declared.civil.date.Date.{Date}
use Rattle.jiff_core.proofs.SignedLemmas.{signed_arith}
use Rattle.jiff_core.proofs.CalendarLemmas.{days_from_civil-day_count, day_count-day, day_count-day_of_year, day_count-lt_month, day_count-lt_year, day_count_bounds}
use Rattle.jiff_core.proofs.DateLemmas.{civil}
use Rattle.moment.specs.Moment.{Moment, IsMomentText, moment_at}
use Rattle.inout.specs.Moments.{last_to, month_of, place_of, text_at, year_of, has_text, moment_text}

-- ---- the greatest number that passes

last_is : (passes : ℕ → Bool) (most k : ℕ) → k ≤ most → (k ≡ 0) ⊎ (passes k ≡ true) → ((j : ℕ) → k < j → passes j ≡ false) → last_to passes most ≡ k
unfolding last_to
last_is passes zero k le at behind = omega arith
last_is passes (suc n) k le at behind =
    elim (cases_order k (suc n)) [
      | inl same ↦ here same at
      | inr (inl less) ↦ rw (behind (suc n) less) (last_is passes n k (omega arith) at behind)
      | inr (inr more) ↦ absurd (omega arith)
    ]
  where
    here : k ≡ suc n → (k ≡ 0) ⊎ (passes k ≡ true) → last_to passes (suc n) ≡ k
    here same (inl none) = absurd (omega arith)
    here same (inr is) = rw (← same, is) refl

-- ---- days

not_after : (a b : ℤ) → a ≤ℤ b → int_le a b ≡ true
not_after a b le = grind (arith, ints)

after : (a b : ℤ) → b <ℤ a → int_le a b ≡ false
after a b lt = grind (arith, ints)

not_after_from : (a b : ℤ) → int_le a b ≡ true → a ≤ℤ b
not_after_from a b is = grind (arith, ints)

year_begun : (y : ℤ) (m d : ℕ) → 1 ≤ d → days_from_civil y 1 1 ≤ℤ days_from_civil y m d
year_begun y m d low = omega (arith, signed_arith, days_from_civil-day_count, day_count-day_of_year y m d low)

month_begun : (y : ℤ) (m d : ℕ) → 1 ≤ d → days_from_civil y m 1 ≤ℤ days_from_civil y m d
month_begun y m d low = omega (arith, signed_arith, days_from_civil-day_count, day_count-day y m d 1 low (omega arith))

later_year : (y y' : ℤ) (m d : ℕ) → IsCivilDate y m d → y <ℤ y' → days_from_civil y m d <ℤ days_from_civil y' 1 1
later_year y y' m d civil lt = omega (arith, signed_arith, days_from_civil-day_count, day_count-lt_year y m d y' 1 1 civil (omega arith) lt)

later_month : (y : ℤ) (m m' d : ℕ) → IsCivilDate y m d → m < m' → days_from_civil y m d <ℤ days_from_civil y m' 1
later_month y m m' d civil lt = omega (arith, signed_arith, days_from_civil-day_count, day_count-lt_month y m d m' 1 civil (omega arith) lt)

year_zero : days_from_civil (pos 0) 1 1 ≡ negsuc 719527
unfolding days_from_civil day_count days_of_years days_of_months
year_zero = refl

january : IsCivilDate (pos 0) 1 1
january = (search rules, search rules, search rules)

module _ (y m d : ℕ) (civil : IsCivilDate (pos y) m d) where
  year_is : year_of (days_from_civil (pos y) m d) ≡ y
  year_is =
      last_is _ 9999 y (omega (arith, signed_arith, civil.0))
      (inr (not_after _ _ (year_begun (pos y) m d civil.2.0)))
      (λ j lt. after _ _ (later_year (pos y) (pos j) m d civil (omega (arith, signed_arith))))

  month_is : month_of y (days_from_civil (pos y) m d) ≡ m
  month_is =
      last_is _ 12 m civil.1.1
      (inr (not_after _ _ (month_begun (pos y) m d civil.2.0)))
      (λ j lt. after _ _ (later_month (pos y) m j d civil lt))

  place_is : place_of y m (days_from_civil (pos y) m d) ≡ d
  place_is =
      let low : 1 ≤ d = civil.2.0 in
      let between : days_from_civil (pos y) m d -ℤ days_from_civil (pos y) m 1 ≡ pos (d - 1) =
      omega (arith, signed_arith, days_from_civil-day_count, day_count-day (pos y) m d 1 low (omega arith)) in
      let up : suc (d - 1) ≡ d = omega arith in
      ap (λ z. suc (unsigned_abs z)) between ∙ up

  -- the days of the years 0 to 9999
  first_day : negsuc 719527 ≤ℤ days_from_civil (pos y) m d
  first_day =
      let begun = year_begun (pos y) m d civil.2.0 in
      let first = year_zero in
      elim (cases_order 0 y) [
        | inl same ↦
            let from_zero = subst (λ k. days_from_civil (pos k) 1 1 ≤ℤ days_from_civil (pos y) m d) (sym same) begun in
            omega (arith, signed_arith)
        | inr (inl less) ↦
            let later = later_year (pos 0) (pos y) 1 1 january (omega (arith, signed_arith)) in
            omega (arith, signed_arith)
        | inr (inr more) ↦ absurd (omega arith)
      ]

  last_day : days_from_civil (pos y) m d ≤ℤ pos 2932896
  last_day = omega (arith, signed_arith, days_from_civil-day_count, day_count_bounds (pos y) m d civil)

  -- the text of a moment on that date
  text_is : (time : ℕ) (moment : Moment) → moment.day ≡ days_from_civil (pos y) m d → moment.second ≡ time → has_text moment ≡ true
      → moment_text moment ≡ text_at y m d time
  unfolding moment_text
  text_is time moment on at has = rw (has, on, at, year_is, month_is, place_is) refl

-- ---- the second of a day

hour_is : (h i s : ℕ) → i < 60 → s < 60 → (3600 * h + 60 * i + s) / 3600 ≡ h
hour_is h i s small low = omega arith

minute_is : (h i s : ℕ) → i < 60 → s < 60 → (3600 * h + 60 * i + s) / 60 % 60 ≡ i
minute_is h i s small low = omega arith

second_is : (h i s : ℕ) → s < 60 → (3600 * h + 60 * i + s) % 60 ≡ s
second_is h i s low = omega arith

second_of : (h i s : ℕ) → h < 24 → i < 60 → s < 60 → 3600 * h + 60 * i + s < 86400
second_of h i s a b c = omega arith

under : (n m : ℕ) → n < m → nat_lt n m ≡ true
under n m lt = grind (arith, nat_tests)

under_from : (n m : ℕ) → nat_lt n m ≡ true → n < m
under_from n m is = grind (arith, nat_tests)

-- ---- the whole

-- the text that spells a moment is the moment's
pub spelled : (text : List ℕ) (m : Moment) → IsMomentText text m → moment_text m ≡ text
unfolding moment_text
spelled text m (s, (is, spells, value)) =
    let civil : IsCivilDate (pos s.year) s.month s.day = (is.0.0, (omega (arith, signed_arith), omega (arith, signed_arith)), (omega (arith, signed_arith), omega (arith, signed_arith))) in
    let has : has_text (moment_at s) ≡ true =
    and_from _ _ (and_from _ _ (not_after _ _ (first_day s.year s.month s.day civil)) (not_after _ _ (last_day s.year s.month s.day civil)))
    (under _ _ (second_of s.hour s.minute s.second is.1 is.2 is.3)) in
    ap moment_text value
    ∙ rw (has, year_is s.year s.month s.day civil, month_is s.year s.month s.day civil, place_is s.year s.month s.day civil, hour_is s.hour s.minute s.second is.2 is.3, minute_is s.hour s.minute s.second is.2 is.3, second_is s.hour s.minute s.second is.3) refl
    ∙ sym spells

pub all_spelled : {Z E : Type 0} (m : Moment) (r : Result (String Z) E) → IfOk r (λ t. string_bytes t ≡ moment_text m)
    → IfOk r (λ t. (other : List ℕ) → IsMomentText other m → string_bytes t ≡ other)
all_spelled m (Ok t) is = λ other spells. is ∙ spelled other m spells
all_spelled m (Err e) is = tt

-- a moment outside the years 0 to 9999
pub no_text : (m : Moment) → has_text m ≡ false → moment_text m ≡ []
unfolding moment_text
no_text m none = rw none refl

-- ---- the date of a moment's day

pub second_below : (m : Moment) → has_text m ≡ true → m.second < 86400
second_below m has = under_from _ _ (and_parts _ _ has).1

-- a date on or after the first day of the year 0 has a year from 0 on
not_before_zero : (d : Date) → negsuc 719527 ≤ℤ epoch_day d → pos 0 ≤ℤ d.year
not_before_zero d le =
    by_lt_z d.year (pos 0)
    (λ before.
    let first = year_zero in
    let earlier = later_year d.year (pos 0) d.month d.day (civil d) before in
    absurd (omega (arith, signed_arith)))
    (λ from. from)

pub dated : (d : Date) (m : Moment) → epoch_day d ≡ m.day → has_text m ≡ true
    → text_at (unsigned_abs d.year) d.month d.day m.second ≡ moment_text m
dated d m on has = by_year d.year refl
  where
    from : pos 0 ≤ℤ d.year
    from = not_before_zero d (subst (λ z. negsuc 719527 ≤ℤ z) (sym on) (not_after_from _ _ (and_parts _ _ (and_parts _ _ has).0).0))

    by_year : (y : ℤ) → d.year ≡ y → text_at (unsigned_abs d.year) d.month d.day m.second ≡ moment_text m
    by_year (pos n) is =
        rw is (sym (text_is n d.month d.day (subst (λ z. IsCivilDate z d.month d.day) is (civil d)) m.second m (sym on ∙ ap (λ z. days_from_civil z d.month d.day) is) refl has))
    by_year (negsuc n) is = absurd (omega (arith, signed_arith, from))
