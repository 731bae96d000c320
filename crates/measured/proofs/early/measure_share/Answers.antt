use Rattle.measured.proofs.early.measure_share.Goals as goal

pub returns : goal.returns
returns g c = record { each = c.measure_many.ensures.given }
