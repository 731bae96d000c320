-- Moments that are known from outside.
use Rattle.std.specs.Prelude.{◌≡◌, refl, codes, Some, None, pos, negsuc}
use Rattle.jiff_core.specs.Calendar.{days_from_civil, day_count, days_of_years, days_of_months}
use Rattle.moment.specs.Moment.{moment_of}

pub new_year : moment_of (codes "2026-01-01T00:00:00Z") ≡ Some (record { day = pos 20454; second = 0 })
unfolding moment_of days_from_civil day_count days_of_years days_of_months
new_year = refl

pub last_second : moment_of (codes "9999-12-31T23:59:59Z") ≡ Some (record { day = pos 2932896; second = 86399 })
unfolding moment_of days_from_civil day_count days_of_years days_of_months
last_second = refl

pub epoch : moment_of (codes "1970-01-01T00:00:00Z") ≡ Some (record { day = pos 0; second = 0 })
unfolding moment_of days_from_civil day_count days_of_years days_of_months
epoch = refl

pub year_zero : moment_of (codes "0000-01-01T00:00:00Z") ≡ Some (record { day = negsuc 719527; second = 0 })
unfolding moment_of days_from_civil day_count days_of_years days_of_months
year_zero = refl

pub no_leap_day : moment_of (codes "2026-02-29T00:00:00Z") ≡ None
unfolding moment_of
no_leap_day = refl

pub leap_second : moment_of (codes "2016-12-31T23:59:60Z") ≡ None
unfolding moment_of
leap_second = refl

pub letters : moment_of (codes "2026-0a-01T00:00:00Z") ≡ None
unfolding moment_of
letters = refl

pub fraction : moment_of (codes "2026-01-01T00:00:00.5Z") ≡ None
unfolding moment_of
fraction = refl
