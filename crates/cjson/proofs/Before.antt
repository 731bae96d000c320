-- The part that a loop has read, before the part that is left.
use Rattle.std.proofs.Common.{List, ◌++◌, Option, option_map}

abbrev pub before : {A : Type 0} → List A → Option (List A) → Option (List A)
before done rest = option_map (λ xs. done ++ xs) rest
