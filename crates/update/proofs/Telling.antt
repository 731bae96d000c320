-- What a writer was given.
use Rattle.std.proofs.Common.{◌≡◌, Result, Ok, Err, IfOk, OnOk, Bool, List, ℕ, Option}
use Rattle.std.specs.Io.KnownBytes.{Appends}
use Rattle.report.specs.Lines.{Whys, outcome_text, outcome_status, stored_outcome_status, stored_outcome_text}
use Rattle.update.specs.Copies.{IsPrintedWith}
use Rattle.update.specs.Runs.{IsPrinted, Outcome}

-- the lines and the status of an answer
pub printed : {E : Type 0} (o : Outcome) (why : Whys) (wanted : List (List ℕ)) (old new : Option (List ℕ)) (r : Result ℕ E)
    → OnOk r (Appends old new (outcome_text o why wanted)) → IfOk r (λ status. status ≡ outcome_status o)
    → IfOk r (λ status. IsPrinted o why wanted status old new)
printed o why wanted old new (Ok status) lines answered = record { lines = lines; answered = answered }
printed o why wanted old new (Err e) lines answered = tt

-- the same with copies
pub printed_with : {E : Type 0} (o : Outcome) (why : Whys) (wanted : List (List ℕ)) (stored : List Bool) (old new : Option (List ℕ)) (r : Result ℕ E)
    → OnOk r (Appends old new (stored_outcome_text o why wanted stored)) → IfOk r (λ status. status ≡ stored_outcome_status o stored)
    → IfOk r (λ status. IsPrintedWith o why wanted stored status old new)
printed_with o why wanted stored old new (Ok status) lines answered = record { lines = lines; answered = answered }
printed_with o why wanted stored old new (Err e) lines answered = tt
