-- Leaves of signatures, and the file that has how many of them are reserved.
use Rattle.std.specs.Prelude.{◌==◌, ◌&&◌, ℕ, List, Option, Some, None, bytes_eq, drop, if◌then◌else◌, length, take}
use Rattle.std.specs.Int.{w32, from_be_bytes}

-- q: the number of the leaf that a signature is by (RFC 8554 section 5.4)
abbrev pub leaf_of : List ℕ → ℕ
leaf_of sig = from_be_bytes w32 (take 4 sig)

-- how many leaves of the key the text of a file has reserved, if it is of this key: 56 bytes of the
-- public key (RFC 8554 section 5.3), and the number in four
unfoldable pub reserved_of : List ℕ → List ℕ → Option ℕ
reserved_of public text =
    (if (length text == 60) && bytes_eq (take 56 text) public
    then Some (from_be_bytes w32 (drop 56 text)) else None)

-- the same of a file, which may be missing
abbrev pub reserved_in : List ℕ → Option (List ℕ) → Option ℕ
reserved_in public None = None
reserved_in public (Some text) = reserved_of public text
