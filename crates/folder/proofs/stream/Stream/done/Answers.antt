use Rattle.folder.proofs.Streaming.{measured}
use Rattle.folder.proofs.stream.Stream.done.Goals as goal

pub returns-clause-measure : goal.returns-clause-measure
returns-clause-measure g c = λ had hash p drained is. measured had _ hash c.args.digest p c.args.self drained is
