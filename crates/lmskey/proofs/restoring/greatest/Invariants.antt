use Rattle.lmskey.specs.Records.{AreWithin}
use Rattle.lmskey.proofs.restoring.greatest.Given as goal

abbrev pub invariant-records : goal.invariant-records
invariant-records l = AreWithin l.public l.log l.greatest l.k
