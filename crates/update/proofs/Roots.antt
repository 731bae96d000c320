-- A root file that is longer than its kind may be.
use Rattle.std.proofs.Common.{◌≡◌, ℕ, List, Bool, Err, length, nat_lt, refl, true}
use Rattle.std.proofs.lemmas.Bool.{lt-ltb}
use Rattle.rolechain.specs.Text.{root_state}
use Rattle.rolechain.specs.declared.fault.StateFault.TheVariants.{TooLong}
use Rattle.system.specs.Bounds.{IsLonger}
use Rattle.update.specs.First.{IsFirst}

too_long : (bytes : List ℕ) → nat_lt 512000 (length bytes) ≡ true → root_state bytes ≡ Err TooLong
too_long bytes h = rw h refl

-- it is refused, though it isn't read to its end
pub long_first : (gives : List ℕ → Bool) → IsLonger 512000 gives → IsFirst gives (Err TooLong)
long_first gives (bytes, (given, long)) = record { bytes = bytes; read = given; of_root = too_long bytes (lt-ltb 512000 (length bytes) long) }
