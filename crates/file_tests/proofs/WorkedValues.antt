-- A worked value of LMS that no case of a file shows.
use Rattle.std.proofs.Common.{◌≡◌, ◌∷◌, [], refl}
use Rattle.lms.specs.Lms.{u16str}

-- the domain separator of a leaf (RFC 8554 section 5.3)
leaf_separator_row : u16str 0x8282 ≡ 0x82 ∷ 0x82 ∷ []
unfolding u16str
leaf_separator_row = refl
