-- Bytes that a file has as they are, or as hexadecimal digits.
use Rattle.std.specs.Prelude.{ℕ, ◌||◌, ◌==◌, List, Bool, filter, not, take, unwrap_or}
use Rattle.std.specs.Int.{w32, from_be_bytes}
use Rattle.hex.specs.Hex.{decode_of}
use Rattle.cjson.specs.Form.{ok}

-- a blank, a tabulator, or an end of a line
abbrev pub is_blank : ℕ → Bool
is_blank c = c == 32 || c == 9 || c == 10 || c == 13

abbrev pub digits_in : List ℕ → List ℕ
digits_in file = filter (λ c. not (is_blank c)) file

-- the bytes that the digits encode, or the file's own if they are no digits
abbrev pub octets : List ℕ → List ℕ
octets file = unwrap_or (ok (decode_of (digits_in file))) file

-- the number of the first four bytes, the most significant first
abbrev pub first_number : List ℕ → ℕ
first_number bytes = from_be_bytes w32 (take 4 bytes)
