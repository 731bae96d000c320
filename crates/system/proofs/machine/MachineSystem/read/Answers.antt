use Rattle.system.proofs.Bounds.{longer_any}
use Rattle.system.proofs.machine.MachineSystem.read.Goals as goal

pub returns-in_err-file-clause-longer : goal.returns-in_err-file-clause-longer
returns-in_err-file-clause-longer g c = longer_any _ c.from_residual.result c.args.most

pub returns-clause-longer : goal.returns-clause-longer
returns-clause-longer g c = longer_any _ c.read_whole.result c.args.most
