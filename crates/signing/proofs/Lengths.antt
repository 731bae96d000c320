-- The kind of a public key by the length of its signatures.
use Rattle.std.proofs.Common.{◌≡◌, ◌≢◌, ℕ, true, Option, Some, None, is_some, refl, sym, true≢false}
use Rattle.lms.specs.Lms.{length_for, signature_length}
use Rattle.lms.specs.declared.kind.Kind.{Kind}
use Rattle.lms.specs.declared.kind.Width.{Width}
use Rattle.lms.specs.declared.kind.Height.{Height}
use Rattle.lms.specs.declared.kind.Width.TheVariants.{W4, W8}
use Rattle.lms.specs.declared.kind.Height.TheVariants.{H5, H10, H15}

last_of : (w : Width) (t : Height) (n : ℕ) → n ≡ signature_length (record { width = w; height = t }) → n ≢ 2348 → n ≢ 2508 → n ≢ 2668 → n ≢ 1292 → n ≢ 1452
    → ◌≡◌ {A = Option Kind} (Some (record { width = w; height = t })) (Some (record { width = W8; height = H15 }))
last_of W4 H5 n h a b c d e = absurd (a h)
last_of W4 H10 n h a b c d e = absurd (b h)
last_of W4 H15 n h a b c d e = absurd (c h)
last_of W8 H5 n h a b c d e = absurd (d h)
last_of W8 H10 n h a b c d e = absurd (e h)
last_of W8 H15 n h a b c d e = refl

-- a kind is the last one, if its signatures don't have the length of another
pub last_kind : (o : Option Kind) (n : ℕ) → is_some o ≡ true → n ≡ length_for o → n ≢ 2348 → n ≢ 2508 → n ≢ 2668 → n ≢ 1292 → n ≢ 1452
    → o ≡ Some (record { width = W8; height = H15 })
last_kind (Some k) n is h a b c d e = last_of k.width k.height n h a b c d e
last_kind None n is h a b c d e = absurd (true≢false (sym is))
