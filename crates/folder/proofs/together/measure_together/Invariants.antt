use Rattle.lanes.specs.Lanes.{IsRow}
use Rattle.folder.specs.Streams.{AreLanes, AreMeasured}
use Rattle.folder.proofs.together.measure_together.Given as goal

abbrev pub invariant-turns : goal.invariant-turns
invariant-turns g l = record {
  row : IsRow g.row.N 8 l.state;
  lanes : AreLanes (g.O.Opener.content l.opener) g.O.File.Read.remaining g.row.N l.state l.lanes;
  done : AreMeasured (g.O.Opener.content l.opener) l.initial.work.done.items → AreMeasured (g.O.Opener.content l.opener) l.work.done.items;
}
