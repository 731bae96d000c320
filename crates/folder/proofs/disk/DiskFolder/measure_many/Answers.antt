use Rattle.std.proofs.Common.{refl}
use Rattle.folder.proofs.disk.DiskFolder.measure_many.Goals as goal

pub returns : goal.returns
returns g c = record { given = λ k d lt. let one = (c.measure_jobs.ensures k d lt).some in (one.0, refl, one.1) }
