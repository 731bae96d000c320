use Rattle.std.proofs.Common.{rules}
use Rattle.meta.proofs.part.Part.read.Goals as goal

pub returns-in_err-doc : goal.returns-in_err-doc
returns-in_err-doc = search rules

pub returns-in_err-reading : goal.returns-in_err-reading
returns-in_err-reading = search rules
