-- The texts that determine which paths a delegation is for (TUF 1.0 section 4.5).
use Rattle.std.specs.Prelude.{ℕ, ◌&&◌, ◌||◌, ◌==◌, nat_le, not, List, length, Bool}
use Rattle.std.specs.List.{list_all}
use Rattle.moment.specs.Moment.{is_digit}

-- a pattern has no `[`
abbrev pub is_pattern : List ℕ → Bool
is_pattern pattern = list_all (λ c. not (c == 91)) pattern

abbrev pub is_lower_digit : ℕ → Bool
is_lower_digit c = is_digit c || (nat_le 97 c && nat_le c 102)

-- a prefix of a digest: 1 to 64 digits from `0` to `9` and `a` to `f`
abbrev pub is_prefix : List ℕ → Bool
is_prefix digits =
    nat_le 1 (length digits) && nat_le (length digits) 64 && list_all is_lower_digit digits
