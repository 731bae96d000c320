-- Texts that are apart.
use Rattle.std.proofs.Common.{◌≡◌, ◌≢◌, ℕ, List, Bool, true, false, Result, Ok, Err, OnErr, bytes_eq, refl, sym}
use Rattle.std.proofs.lemmas.Slice.Eq.{bytes_eq-Decides}

other : (b : Bool) (p q : List ℕ) → bytes_eq p q ≡ b → q ≢ p → b ≡ false
other true p q is isnt = absurd (isnt (sym ((bytes_eq-Decides p q).0 is)))
other false p q is isnt = refl

pub other_text : (p q : List ℕ) → q ≢ p → bytes_eq p q ≡ false
other_text p q isnt = other (bytes_eq p q) p q refl isnt

pub on_err : {A E : Type 0} (P : Type 0) (r : Result A E) → P → OnErr r P
on_err P (Ok x) p = tt
on_err P (Err e) p = p
