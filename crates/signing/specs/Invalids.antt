-- Why a signature isn't valid: the first check that it fails (RFC 8554 section 5.4.2).
use Rattle.std.specs.Prelude.{ℕ, ◌+◌, ◌*◌, ◌^◌, ◌==◌, ◌&&◌, List, Bool, Option, Some, None, if◌then◌else◌, not, nat_le, length, bytes_eq, slice_range}
use Rattle.std.specs.Option.{option_map_or}
use Rattle.hex.specs.Hex.{decode_of}
use Rattle.cjson.specs.Form.{ok}
use Rattle.lms.specs.Lms.{chain_count, levels, public_kind, signature_length}
use Rattle.lms.specs.declared.kind.Kind.{Kind}
use Rattle.lms.specs.declared.kind.Width.{Width}
use Rattle.signing.specs.Octets.{first_number}
use Rattle.signing.specs.declared.fault.Invalid.{Invalid}
use Rattle.signing.specs.declared.fault.Invalid.TheVariants as invalid

-- the type codes of a signature, before its randomizer and behind its chains, are those that the
-- key begins with
abbrev pub has_codes : Width → List ℕ → List ℕ → Bool
has_codes w public sig =
    bytes_eq (slice_range sig 4 8) (slice_range public 4 8)
    && bytes_eq (slice_range sig (40 + 32 * chain_count w) (44 + 32 * chain_count w))
    (slice_range public 0 4)

-- the leaf of a signature, its first four bytes
abbrev pub leaf_in : List ℕ → ℕ
leaf_in sig = if nat_le 4 (length sig) then first_number sig else 0

-- the first check that fails; the last of them is the root
abbrev pub reason_for : Option Kind → List ℕ → List ℕ → Invalid
reason_for None public sig = invalid.Kind
reason_for (Some k) public sig =
    if not (length sig == signature_length k) then invalid.Length (length sig) (signature_length k)
    else if not (has_codes k.width public sig) then invalid.Kind
    else if nat_le (2 ^ levels k.height) (first_number sig) then invalid.Leaf (first_number sig)
    else invalid.Root

abbrev pub reason : List ℕ → List ℕ → Invalid
reason public sig = reason_for (public_kind public) public sig

-- the same of the text of an entry
abbrev pub text_reason : List ℕ → List ℕ → Invalid
text_reason public text = option_map_or (reason public) (ok (decode_of text)) invalid.Hexadecimal

-- the leaf of the signature that a text encodes
abbrev pub text_leaf : List ℕ → ℕ
text_leaf text = option_map_or leaf_in (ok (decode_of text)) 0
