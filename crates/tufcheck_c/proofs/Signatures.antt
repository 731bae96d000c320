-- Signatures for bytes that are no key.
use Rattle.std.proofs.Common.{◌≡◌, ℕ, List, Option, Some, None, is_some, if◌then◌else◌, false, refl}
use Rattle.lms.specs.Lms.{is_public, is_valid, is_valid_for, public_kind, public_of}
use Rattle.lms.specs.declared.kind.Kind.{Kind}

not_for : (o : Option Kind) (p msg sig : List ℕ) → None ≡ (if is_some o then Some p else None) → false ≡ is_valid_for o p msg sig
not_for None p msg sig none = refl
not_for (Some k) p msg sig none = absurd (cc)

pub not_valid : (p msg sig : List ℕ) → None ≡ public_of p → false ≡ is_valid p msg sig
unfolding is_public is_valid
not_valid p msg sig none = not_for (public_kind p) p msg sig none
