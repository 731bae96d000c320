-- Names that are known from outside.
use Rattle.std.specs.Prelude.{◌≡◌, refl, codes, Some, None, true, false, [], ◌∷◌}
use Rattle.std.specs.Fmt.{digits}
use Rattle.hex.specs.Hex.{encode_with}
use Rattle.meta.specs.Content.{root_name, role_name, versioned, hashed, target_names}

pub of_root : root_name 12 ≡ codes "12.root.json"
unfolding digits
of_root = refl

pub of_role : role_name (codes "targets") ≡ codes "targets.json"
of_role = refl

pub consistent : versioned true 42 (codes "snapshot.json") ≡ codes "42.snapshot.json"
unfolding digits
consistent = refl

pub plain : versioned false 42 (codes "snapshot.json") ≡ codes "snapshot.json"
plain = refl

pub in_a_folder : hashed (codes "e3b0") (codes "d/e") ≡ codes "d/e3b0.e"
in_a_folder = refl

pub in_two_folders : hashed (codes "e3b0") (codes "c/d/e") ≡ codes "c/d/e3b0.e"
in_two_folders = refl

pub in_none : hashed (codes "e3b0") (codes "e") ≡ codes "e3b0.e"
in_none = refl

pub both_digests : target_names true (codes "d/e") (Some (0xe3 ∷ 0xb0 ∷ [])) (Some (0xcf ∷ 0x83 ∷ [])) ≡ codes "d/e3b0.e" ∷ codes "d/cf83.e" ∷ []
unfolding encode_with
both_digests = refl

pub one_digest : target_names true (codes "e") None (Some (0xcf ∷ 0x83 ∷ [])) ≡ codes "cf83.e" ∷ []
unfolding encode_with
one_digest = refl

pub by_path : target_names false (codes "d/e") (Some (0xe3 ∷ 0xb0 ∷ [])) None ≡ codes "d/e" ∷ []
by_path = refl
