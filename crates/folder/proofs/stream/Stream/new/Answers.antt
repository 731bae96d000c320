use Rattle.std.proofs.Common.{refl}
use Rattle.folder.proofs.Streaming.{begun}
use Rattle.folder.proofs.stream.Stream.new.Goals as goal

pub returns-clause-stream : goal.returns-clause-stream
returns-clause-stream g c = λ had p left is. begun had _ p _ refl refl c.requires.sha256 c.requires.sha512 left is
